-- Bits and good bytes of an input: there are no more of either than bytes, and the good bytes stand in front.
-- Assumes nothing.
use mathlib.Core.Path.{◌≡◌, refl, sym, ap, ◌∙◌}
use mathlib.Core.Bool.{Bool, true, false, not, cond}
use mathlib.Core.List.{List, [], ◌∷◌, ◌++◌, append-nil, append_assoc}
use Prim.Native.Nat.{ℕ, suc, ◌+◌, ◌≤◌, ◌<◌}
use borrow.Author.Tests.{ne_eqb}
use native.Mathlib.Omega.{arith}
use Prim.Native.Char.{code}
use lib.Dec.{eqb, ltb}
use Rattle.std.proofs.lemmas.List.{take-append-drop}
use Rattle.std.proofs.Common.{Option, Some, None}
use Rattle.std.specs.Option.{unwrap_or}
use Rattle.std.proofs.lemmas.Bool.Decides.{nat_tests}
use Rattle.std.specs.List.{position_or_len}
use Rattle.std.proofs.lemmas.List.Recursion.{is_position_or_len}
use lib.ListN.{length, length-append, take, drop, get_or}
use lib.Seq.{take-suc}
use native.Mathlib.Numerals.{add-one}
use Rattle.vocabulary.specs.Choice.{pick}
use Rattle.listing.specs.Input.{bit_of, is_good, good, bits_in}

one_bit : (zero one : Bool) → length (pick zero (false ∷ []) (pick one (true ∷ []) [])) ≤ 1
one_bit true one = omega arith
one_bit false true = omega arith
one_bit false false = omega arith

pub bits_few : (bytes : List ℕ) → length (bits_in bytes) ≤ length bytes
unfolding bits_in
bits_few [] = omega arith
bits_few (byte ∷ bytes) =
    let rest = bits_few bytes in
    let one : length (bit_of byte) ≤ 1 = one_bit (eqb byte (code "0")) (eqb byte (code "1")) in
    omega (arith, length-append (bit_of byte) (bits_in bytes))

bits_append : (xs ys : List ℕ) → bits_in (xs ++ ys) ≡ bits_in xs ++ bits_in ys
unfolding bits_in
bits_append [] ys = refl
bits_append (byte ∷ xs) ys = rw (bits_append xs ys) (sym (append_assoc (bit_of byte) (bits_in xs) (bits_in ys)))

pub no_bit : (byte : ℕ) → (byte ≡ 48 → ⊥) → (byte ≡ 49 → ⊥) → bit_of byte ≡ []
no_bit byte not_zero not_one = rw (ne_eqb byte 48 not_zero, ne_eqb byte 49 not_one)

pub no_bytes : bits_in [] ≡ []
unfolding bits_in
no_bytes = refl

-- the bits before a byte, its own, and those behind it
module _ (bytes : List ℕ) (i : ℕ) (more : i < length bytes) where
  pub byte_taken : bits_in (take (i + 1) bytes) ≡ bits_in (take i bytes) ++ bit_of (get_or bytes i 0)
  unfolding bits_in
  byte_taken =
      rw (
        add-one i,
        take-suc bytes i 0 more,
        bits_append (take i bytes) (get_or bytes i 0 ∷ []),
        append-nil (bit_of (get_or bytes i 0)),
      )

  pub byte_within : bits_in bytes ≡ bits_in (take i bytes) ++ (bit_of (get_or bytes i 0) ++ bits_in (drop (i + 1) bytes))
  byte_within =
      ap bits_in (sym (take-append-drop (i + 1) bytes))
      ∙ bits_append (take (i + 1) bytes) (drop (i + 1) bytes)
      ∙ rw byte_taken (append_assoc (bits_in (take i bytes)) (bit_of (get_or bytes i 0)) _)

one_more_good : (test : Bool) (byte : ℕ) (bytes rest : List ℕ) →
    take (length rest) bytes ≡ rest → length rest ≤ length bytes →
    let front = pick test (byte ∷ rest) [] in
    (take (length front) (byte ∷ bytes) ≡ front) × (length front ≤ suc (length bytes))
one_more_good true byte bytes rest e few = (ap (λ (front : List ℕ). byte ∷ front) e, omega arith)
one_more_good false byte bytes rest e few = (refl, omega arith)

pub good_in_front : (bytes : List ℕ) →
    (take (length (good bytes)) bytes ≡ good bytes) × (length (good bytes) ≤ length bytes)
unfolding good
good_in_front [] = (refl, omega arith)
good_in_front (byte ∷ bytes) =
    one_more_good (is_good byte) byte bytes (good bytes) (good_in_front bytes).0 (good_in_front bytes).1

abbrev pub is_bad : ℕ → Bool
is_bad byte = not (is_good byte)

bad_ends : (test : Bool) (byte : ℕ) (rest : List ℕ) → length (pick test (byte ∷ rest) []) ≡ cond (not test) 0 (1 + length rest)
bad_ends true byte rest = omega arith
bad_ends false byte rest = refl

-- the good bytes end where the first bad one stands
pub good_end : (bytes : List ℕ) → length (good bytes) ≡ position_or_len is_bad bytes
unfolding good
good_end = is_position_or_len (λ (bytes : List ℕ). length (good bytes)) is_bad refl (λ byte bytes. bad_ends (is_good byte) byte (good bytes))

-- `position`, or the length where it finds none, is where the first bad byte stands or would stand
pub end_found : (bytes : List ℕ) {found : Option ℕ} →
    let end = position_or_len is_bad bytes in
    found ≡ cond (ltb end (length bytes)) (Some end) None → unwrap_or found (length bytes) ≡ length (good bytes)
end_found bytes e = rw (e, ← good_end bytes) (some_or_all _ _ (good_in_front bytes).1)
  where
    some_or_all : (end all : ℕ) → end ≤ all → unwrap_or (cond (ltb end all) (Some end) None) all ≡ end
    some_or_all end all h = grind (arith, nat_tests)
