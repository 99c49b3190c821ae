-- A call that is not refused passed each of its tests.
-- Assumes nothing.
use Rattle.std.specs.Prelude.{ℕ, ◌≡◌, refl, Bool, true, false, List, ◌∷◌, eqb, Result, Ok, Err}
use mathlib.Core.Path.{sym, ap, ◌∙◌}
use native.Mathlib.Omega.{arith}
use Rattle.vocabulary.specs.Choice.{pick}
use Rattle.vocabulary.specs.declared.Refusal.{Refusal}
use Rattle.vocabulary.specs.Refusals.{number, refusal_in, answer_in, Test, test, first_of}

-- no refusal has the number of none
pub not_none : (r : Refusal) → number r ≡ 0 → ⊥
not_none Refusal.State e = omega arith
not_none Refusal.Store e = omega arith
not_none Refusal.Port e = omega arith
not_none Refusal.Row e = omega arith
not_none Refusal.Char e = omega arith
not_none Refusal.Rounds e = omega arith
not_none Refusal.Stopped e = omega arith
not_none Refusal.NotRun e = omega arith
not_none Refusal.Empty e = omega arith
not_none Refusal.Full e = omega arith

-- the refusal that has a number
abbrev with_number : ℕ → Refusal
with_number n =
    pick (eqb n 1) Refusal.State
    (pick (eqb n 2) Refusal.Store
    (pick (eqb n 3) Refusal.Port
    (pick (eqb n 4) Refusal.Row
    (pick (eqb n 5) Refusal.Char
    (pick (eqb n 6) Refusal.Rounds
    (pick (eqb n 7) Refusal.Stopped
    (pick (eqb n 8) Refusal.NotRun
    (pick (eqb n 9) Refusal.Empty
    Refusal.Full))))))))

with_its_number : (r : Refusal) → with_number (number r) ≡ r
with_its_number Refusal.State = refl
with_its_number Refusal.Store = refl
with_its_number Refusal.Port = refl
with_its_number Refusal.Row = refl
with_its_number Refusal.Char = refl
with_its_number Refusal.Rounds = refl
with_its_number Refusal.Stopped = refl
with_its_number Refusal.NotRun = refl
with_its_number Refusal.Empty = refl
with_its_number Refusal.Full = refl

-- two refusals of one number are one
pub one_number : (x y : Refusal) → number x ≡ number y → x ≡ y
one_number x y n = sym (with_its_number x) ∙ ap with_number n ∙ with_its_number y

-- a number and an answer leave one result: which refusal it is, or what was answered
pub one_result : {A : Type 0} (zero : A) (x y : Result A Refusal) →
    refusal_in x ≡ refusal_in y → answer_in zero x ≡ answer_in zero y → x ≡ y
one_result zero (Ok a) (Ok b) r e = ap Ok e
one_result zero (Ok a) (Err s) r e = absurd (not_none s (sym r))
one_result zero (Err s) (Ok b) r e = absurd (not_none s r)
one_result zero (Err s) (Err t) r e = ap Err (one_number s t r)

-- the first test of a call that is not refused does not apply
pub passed : (r : Refusal) (applies : Bool) (ts : List Test) → first_of (test r applies ∷ ts) ≡ 0 → applies ≡ false
passed r true ts e = absurd (not_none r e)
passed r false ts e = refl

-- nor does a later one
pub passed_later : (r : Refusal) (applies : Bool) (ts : List Test) → first_of (test r applies ∷ ts) ≡ 0 → first_of ts ≡ 0
passed_later r true ts e = absurd (not_none r e)
passed_later r false ts e = e
