-- Where nine ticks behind a bit can stand in a list of calls: behind calls that held none, a bit and up to eight ticks make
-- none.
-- Assumes nothing.
use mathlib.Core.Path.{◌≡◌, refl, sym, ap, ◌∙◌}
use mathlib.Core.Bool.{Bool, true, false, true≢false}
use mathlib.Core.List.{List, [], ◌∷◌, ◌++◌, append_assoc, head-eq_of_cons-eq, tail-eq_of_cons-eq, cons-eq-cons, nil≢cons}
use Prim.Native.Nat.{ℕ, zero, suc, ◌≤◌}
use native.Mathlib.Omega.{arith}
use lib.ListN.{length}
use Rattle.characters_stream.specs.GoodStates.{Call, bit, tick}
use Rattle.characters_stream.specs.Ticks.{bits_in, nine_ticks, WasSilent}

abbrev pub ticks : ℕ → List Call
ticks zero = []
ticks (suc k) = tick ∷ ticks k

length_ticks : (k : ℕ) → length (ticks k) ≡ k
length_ticks zero = refl
length_ticks (suc k) = ap suc (length_ticks k)

pub ticks_suc : (k : ℕ) → ticks (suc k) ≡ ticks k ++ tick ∷ []
ticks_suc zero = refl
ticks_suc (suc k) = ap (λ (l : List Call). tick ∷ l) (ticks_suc k)

abbrev is_tick : Call → Bool
is_tick (bit b) = false
is_tick tick = true

tick_no_bit : {b : Bool} → tick ≡ bit b → ⊥
tick_no_bit e = true≢false (ap is_tick e)

no_bit_in_ticks : (k : ℕ) (before : List Call) (b : Bool) (rest : List Call) → ticks k ≡ before ++ bit b ∷ rest → ⊥
no_bit_in_ticks zero [] b rest e = nil≢cons e
no_bit_in_ticks zero (x ∷ before) b rest e = nil≢cons e
no_bit_in_ticks (suc k) [] b rest e = tick_no_bit (head-eq_of_cons-eq e)
no_bit_in_ticks (suc k) (x ∷ before) b rest e = no_bit_in_ticks k before b rest (tail-eq_of_cons-eq e)

-- ticks at the front end before the first bit
ticks_before_bit : (k : ℕ) (calls : List Call) (b : Bool) (more rest : List Call) →
    calls ++ bit b ∷ more ≡ ticks k ++ rest → (left : List Call) × (calls ≡ ticks k ++ left)
ticks_before_bit zero calls b more rest e = (calls, refl)
ticks_before_bit (suc k) [] b more rest e = absurd (tick_no_bit (sym (head-eq_of_cons-eq e)))
ticks_before_bit (suc k) (c ∷ calls) b more rest e =
    let left = ticks_before_bit k calls b more rest (tail-eq_of_cons-eq e) in
    (left.0, cons-eq-cons.1 (head-eq_of_cons-eq e, left.1))

never_nine : (calls before : List Call) (b b' : Bool) (k : ℕ) (rest : List Call) → k ≤ 8 → (WasSilent calls → ⊥) →
    calls ++ bit b ∷ ticks k ≡ before ++ (bit b' ∷ nine_ticks ++ rest) → ⊥
never_nine [] [] b b' k rest few none e =
    omega (arith, length_ticks k, ap length (tail-eq_of_cons-eq e))
never_nine [] (x ∷ before) b b' k rest few none e = no_bit_in_ticks k before b' (nine_ticks ++ rest) (tail-eq_of_cons-eq e)
never_nine (c ∷ calls) [] b b' k rest few none e =
    let left = ticks_before_bit 9 calls b (ticks k) rest (tail-eq_of_cons-eq e) in
    none ([], b', left.0, cons-eq-cons.1 (head-eq_of_cons-eq e, left.1))
never_nine (c ∷ calls) (x ∷ before) b b' k rest few none e =
    never_nine calls before b b' k rest few
    (λ (before, b, rest, e). none (c ∷ before, b, rest, ap (λ (l : List Call). c ∷ l) e)) (tail-eq_of_cons-eq e)

pub still_not_silent : (calls : List Call) (b : Bool) (k : ℕ) → k ≤ 8 → (WasSilent calls → ⊥) →
    WasSilent (calls ++ bit b ∷ ticks k) → ⊥
still_not_silent calls b k few none (before, b', rest, e) = never_nine calls before b b' k rest few none e

-- what was stays so
pub silent_still : (calls more : List Call) → WasSilent calls → WasSilent (calls ++ more)
silent_still calls more (before, b, rest, e) =
    (before, b, rest ++ more, ap (λ (l : List Call). l ++ more) e ∙ append_assoc before (bit b ∷ nine_ticks ++ rest) more)

pub ticks_silent : (k : ℕ) → WasSilent (ticks k) → ⊥
ticks_silent k (before, b, rest, e) = no_bit_in_ticks k before b (nine_ticks ++ rest) e

-- the bits of calls behind calls; ticks have none
pub bits_append : (xs ys : List Call) → bits_in (xs ++ ys) ≡ bits_in xs ++ bits_in ys
bits_append [] ys = refl
bits_append (bit b ∷ xs) ys = ap (λ (l : List Bool). b ∷ l) (bits_append xs ys)
bits_append (tick ∷ xs) ys = bits_append xs ys

pub bits_ticks : (k : ℕ) → bits_in (ticks k) ≡ []
bits_ticks zero = refl
bits_ticks (suc k) = bits_ticks k
