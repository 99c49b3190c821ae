-- What waits, as a number and a value: each number by itself, and what a flag makes of it.
-- Assumes nothing.
use Prim.Native.Nat.{ℕ, zero, suc, ◌≤◌}
use mathlib.Core.Path.{◌≡◌, refl, sym, ap}
use mathlib.Core.Bool.{Bool, true, false, not, ◌&&◌}
use native.Mathlib.Omega.{arith}
use native.Mathlib.Decide.{ℕ_discrete}
use lib.Dec.{eqb, ltb, leb}
use borrow.Author.Tests.{eq-eqb, ne_eqb, lt-ltb, le-ltb, lt-leb, le-leb, eqb-true, ltb-true, ltb-false, leb-true, leb-false}
use Rattle.vocabulary.specs.Choice.{pick}
use Rattle.std.specs.Prelude.{Result, Ok, Err}
use Rattle.vocabulary.specs.declared.Refusal.{Refusal}
use Rattle.vocabulary.specs.declared.Token.{Token}
use Rattle.vocabulary.specs.declared.Token.TheVariants.{Null, Fct, NChar, TimeCode}
use Rattle.words.specs.Arguments.{token_of, named, FitsToken}
use Rattle.words.proofs.TokenLaws.{token_back}
use Rattle.characters.specs.declared.reports.Waiting.{Waiting}
use Rattle.characters.specs.declared.reports.Waiting.TheVariants.{Reported, Whole, Esc}
use Rattle.characters.specs.Refusals.{bad_waiting}
use Rattle.characters.specs.DecoderWords.{waiting_number, waiting_value, waiting_of, most_value, esc_number, FitsWaiting}

-- a number and a value of something that may wait
abbrev pub is_waiting : ℕ → ℕ → Bool
is_waiting n value =
    eqb n (waiting_number (waiting_of n value)) && (eqb value (waiting_value (waiting_of n value)) && not
    (bad_waiting (waiting_of n value)))

pub n_char_waits : (v : ℕ) → leb v 257 ≡ is_waiting 3 v
unfolding waiting_of token_of
n_char_waits v = small (leb v 257) refl (ltb v 65536) refl
  where
    small : (b : Bool) → leb v 257 ≡ b → (f : Bool) → ltb v 65536 ≡ f → leb v 257 ≡ is_waiting 3 v
    small true p true q = rw (q, p, eq-eqb v v refl, le-ltb 257 v (leb-true v 257 p))
    small true p false q = absurd (omega (arith, leb-true v 257 p, ltb-false v 65536 q))
    small false p true q = rw (q, p, eq-eqb v v refl, lt-ltb 257 v (leb-false v 257 p))
    small false p false q = rw (q, p, ne_eqb v 65535 (λ e. omega (arith, e, ltb-false v 65536 q)))

pub time_code_waits : (v : ℕ) → leb v 255 ≡ is_waiting 4 v
unfolding waiting_of token_of
time_code_waits v = small (ltb v 256) refl
  where
    small : (b : Bool) → ltb v 256 ≡ b → leb v 255 ≡ is_waiting 4 v
    small true p = rw (p, le-leb v 255 (omega (arith, ltb-true v 256 p)), eq-eqb v v refl)
    small false p = rw (p, lt-leb v 255 (omega (arith, ltb-false v 256 p)))

bare_waits : (v : ℕ) (b : Bool) → eqb v 0 ≡ b → (b ≡ is_waiting 1 v) × (b ≡ is_waiting 2 v)
unfolding waiting_of token_of
bare_waits v true p = (rw (eqb-true v 0 p), rw (eqb-true v 0 p))
bare_waits v false p = (rw p, rw p)

and_true : (b : Bool) → b && true ≡ b
and_true true = refl
and_true false = refl

large_waits : (n v : ℕ) → 6 ≤ n → leb n 5 && eqb v 0 ≡ is_waiting n v
unfolding waiting_of token_of
large_waits n v h =
    rw (
      lt-leb n 5 h,
      ne_eqb n 0 (λ e. omega (arith, e, h)),
      ne_eqb n 5 (λ e. omega (arith, e, h)),
      ne_eqb n 1
          (λ e. omega (arith, e, h)),
      ne_eqb n 2 (λ e. omega (arith, e, h)),
      ne_eqb n 3 (λ e. omega (arith, e, h)),
      ne_eqb n 4 (λ e. omega (arith, e, h)),
    )
    (ap (λ (b : Bool). b && (eqb v 65535 && false)) (sym (ne_eqb n 3 (λ e. omega (arith, e, h)))))

-- any other number waits with the value 0, or not at all
pub other_waits : (n v : ℕ) → (n ≡ 3 → ⊥) → (n ≡ 4 → ⊥) → leb n 5 && eqb v 0 ≡ is_waiting n v
unfolding waiting_of token_of
other_waits zero v h k = sym (and_true (eqb v 0))
other_waits (suc zero) v h k = (bare_waits v (eqb v 0) refl).0
other_waits (suc (suc zero)) v h k = (bare_waits v (eqb v 0) refl).1
other_waits (suc (suc (suc zero))) v h k = absurd (h refl)
other_waits (suc (suc (suc (suc zero)))) v h k = absurd (k refl)
other_waits (suc (suc (suc (suc (suc zero))))) v h k = sym (and_true (eqb v 0))
other_waits (suc (suc (suc (suc (suc (suc n)))))) v h k = large_waits (suc (suc (suc (suc (suc (suc n)))))) v
    (omega arith)

no_value : (v : ℕ) → leb v 0 ≡ eqb v 0
no_value zero = refl
no_value (suc v) = rw (lt-leb (suc v) 0 (omega arith), ne_eqb (suc v) 0 (λ e. omega (arith, e)))

-- the largest number and the largest value tell what may wait
pub waiting_test : (n v : ℕ) → leb n 5 && leb v (most_value n) ≡ is_waiting n v
waiting_test n v = by (ℕ_discrete n 3) (ℕ_discrete n 4)
  where
    by : Dec (n ≡ 3) → Dec (n ≡ 4) → leb n 5 && leb v (most_value n) ≡ is_waiting n v
    by (yes h) k = rw h (n_char_waits v)
    by (no h) (yes k) = rw k (time_code_waits v)
    by (no h) (no k) = rw (ne_eqb n 3 h, ne_eqb n 4 k, no_value v) (other_waits n v h k)

token_fits : (n v : ℕ) → FitsToken (token_of n v)
unfolding token_of
token_fits n v = by (eqb n 1) (eqb n 2) (eqb n 3) (eqb n 4) (eqb v 0) (ltb v 65536) refl (ltb v 256) refl
  where
    by : (a b c d z f : Bool) → ltb v 65536 ≡ f → (t : Bool) → ltb v 256 ≡ t →
        FitsToken (pick a (pick z Null (NChar 65535)) (pick b (pick z Fct (NChar 65535))
        (pick c (NChar (pick f v 65535)) (pick d (pick t (TimeCode v) (NChar 65535)) (NChar 65535)))))
    by true b c d true f p t q = tt
    by true b c d false f p t q = omega arith
    by false true c d true f p t q = tt
    by false true c d false f p t q = omega arith
    by false false true d z true p t q = ltb-true v 65536 p
    by false false true d z false p t q = omega arith
    by false false false true z f p true q = ltb-true v 256 q
    by false false false true z f p false q = omega arith
    by false false false false z f p t q = omega arith

pub waiting_fits : (n v : ℕ) → FitsWaiting (waiting_of n v)
unfolding waiting_of
waiting_fits n v = by (eqb n 0) (eqb n 5)
  where
    by : (a b : Bool) → FitsWaiting (pick a Reported (pick b Esc (Whole (token_of n v))))
    by true b = tt
    by false true = tt
    by false false = token_fits n v

-- What waits is read from its number and value: as a token where they name one, else by the number.
abbrev pub Read : Waiting → Result Token Refusal → Type 0
Read w (Ok t) = Whole t ≡ w
Read w (Err r) = pick (eqb (waiting_number w) esc_number) Esc Reported ≡ w

pub reads : (w : Waiting) → FitsWaiting w → bad_waiting w ≡ false →
    Read w (named (token_of (waiting_number w) (waiting_value w)))
unfolding token_of
reads Reported fits good = refl
reads (Whole t) fits good = rw (token_back t fits, good)
reads Esc fits good = refl
