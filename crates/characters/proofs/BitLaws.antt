-- Laws of lists of bits and the numbers that they make.
-- Assumes nothing.
use mathlib.Core.Path.{◌≡◌, refl, sym, ap, ◌∙◌}
use mathlib.Core.Bool.{Bool, true, false, not}
use mathlib.Core.List.{List, [], ◌∷◌, ◌++◌}
use Prim.Native.Nat.{ℕ, zero, suc, ◌+◌, ◌*◌, ◌/◌, ◌%◌, ◌^◌, ◌≤◌, ◌<◌}
use native.Mathlib.Nat.{pow-suc, pow-succ', mul_assoc}
use native.Mathlib.Omega.{arith}
use native.Mathlib.Decide.{ℕ_discrete}
use lib.Dec.{eqb}
use lib.ListN.{length}
use borrow.Author.Tests.{eq-eqb, ne_eqb}
use Rattle.characters.specs.Bits.{bit, differ, odd, number, bits_of}

pub bit_le : (b : Bool) → bit b ≤ 1
bit_le true = omega arith
bit_le false = omega arith

-- the lowest bit of a number, as a bit and as a remainder
pub bit_of_odd : (n : ℕ) → bit (eqb (n % 2) 1) ≡ n % 2
bit_of_odd n = at (ℕ_discrete (n % 2) 1)
  where
    at : Dec (n % 2 ≡ 1) → bit (eqb (n % 2) 1) ≡ n % 2
    at (yes e) = ap bit (eq-eqb _ _ e) ∙ sym e
    at (no d) = ap bit (ne_eqb _ _ d) ∙ omega (arith, d)

-- the k lowest bits of a number below 2 ^ k make that number
pub number_bits : (k n : ℕ) → n < 2 ^ k → number (bits_of k n) ≡ n
number_bits zero n h = omega arith
number_bits (suc k) n h =
    rw (bit_of_odd n, number_bits k (n / 2) (omega (arith, pow-suc 2 k))) (omega arith)

-- two bits in front of a number
pub number_behind : (p f : Bool) (xs : List Bool) (n : ℕ) → number xs ≡ n → number (p ∷ f ∷ xs) ≡ bit p + 2 * bit f + 4 * n
number_behind p f xs n e = omega arith

-- a bit in front of a number is its lowest, and its half is the number
pub lowest : (b : Bool) (n : ℕ) → eqb ((bit b + 2 * n) % 2) 1 ≡ b
lowest true n = eq-eqb ((1 + 2 * n) % 2) 1 (omega arith)
lowest false n = ne_eqb ((0 + 2 * n) % 2) 1 (omega arith)

pub halved : (b : Bool) (n : ℕ) → (bit b + 2 * n) / 2 ≡ n
halved true n = omega arith
halved false n = omega arith

-- and the other way round: as many bits as there are, of the number that they make, are those bits
pub bits_number : (xs : List Bool) → bits_of (length xs) (number xs) ≡ xs
bits_number [] = refl
bits_number (b ∷ xs) =
    rw (halved b (number xs), lowest b (number xs), bits_number xs)

-- so bits of one length that make one number are the same
pub number_tells : (xs ys : List Bool) → length xs ≡ length ys → number xs ≡ number ys → xs ≡ ys
number_tells xs ys l n =
    sym (bits_number xs) ∙ ap (λ (k : ℕ). bits_of k (number xs)) l ∙ ap (bits_of (length ys)) n ∙ bits_number ys

pub number_below : (xs : List Bool) → number xs < 2 ^ length xs
number_below [] = omega arith
number_below (b ∷ xs) = omega (arith, number_below xs, bit_le b, pow-suc 2 (length xs))

-- bits behind others count for as much more
pub number_append : (xs ys : List Bool) → number (xs ++ ys) ≡ number xs + 2 ^ length xs * number ys
number_append [] ys = omega arith
number_append (x ∷ xs) ys =
    rw (number_append xs ys, pow-succ' 2 (length xs), mul_assoc 2 (2 ^ length xs) (number ys)) (omega arith)

not_differ : (a b : Bool) → not (differ a b) ≡ differ (not a) b
not_differ true true = refl
not_differ true false = refl
not_differ false b = refl

-- the ones in two lists together
pub odd_append : (xs ys : List Bool) → odd (xs ++ ys) ≡ differ (odd xs) (odd ys)
odd_append [] ys = refl
odd_append (true ∷ xs) ys = ap not (odd_append xs ys) ∙ not_differ (odd xs) (odd ys)
odd_append (false ∷ xs) ys = odd_append xs ys
