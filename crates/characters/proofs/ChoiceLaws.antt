-- A choice between an answer and a refusal: which of them it was tells what was tested.
-- Assumes nothing.
use mathlib.Core.Path.{◌≡◌, refl, ap}
use mathlib.Core.Bool.{Bool, true, false, true≢false, false≢true}
use Rattle.std.specs.Prelude.{Result, Ok, Err, is_ok}
use Rattle.vocabulary.specs.Choice.{pick}
use Rattle.vocabulary.specs.declared.Refusal.{Refusal}
use Rattle.vocabulary.specs.Refusals.{answer_in}

abbrev pub refusal_or : {A : Type 0} → Refusal → Result A Refusal → Refusal
refusal_or none (Ok answer) = none
refusal_or none (Err r) = r

pub answered : {A : Type 0} (test : Bool) (x y : A) (r : Refusal) → pick test (Ok x) (Err r) ≡ Ok y →
    (test ≡ true) × (x ≡ y)
answered true x y r e = (refl, ap (answer_in x) e)
answered false x y r e = absurd (false≢true (ap is_ok e))

pub unanswered : {A : Type 0} (test : Bool) (x : A) (r s : Refusal) → pick test (Ok x) (Err r) ≡ Err s →
    (test ≡ false) × (r ≡ s)
unanswered true x r s e = absurd (true≢false (ap is_ok e))
unanswered false x r s e = (refl, ap (refusal_or r) e)

pub passed : {A : Type 0} (test : Bool) (x y : A) (r : Refusal) → pick test (Err r) (Ok x) ≡ Ok y →
    (test ≡ false) × (x ≡ y)
passed true x y r e = absurd (false≢true (ap is_ok e))
passed false x y r e = (refl, ap (answer_in x) e)

pub refused : {A : Type 0} (test : Bool) (x : A) (r s : Refusal) → pick test (Err r) (Ok x) ≡ Err s →
    (test ≡ true) × (r ≡ s)
refused true x r s e = (refl, ap (refusal_or r) e)
refused false x r s e = absurd (true≢false (ap is_ok e))
