-- Two arrays of words are the same where each word is.
-- Assumes nothing.
use Prim.Native.Nat.{ℕ, suc}
use mathlib.Core.Path.{◌≡◌, refl, ap, ◌∙◌}
use mathlib.Core.Bool.{Bool, true, false, ◌&&◌, false≢true}
use mathlib.Core.List.{List, [], ◌∷◌}
use lib.ListN.{length}
use lib.Dec.{eqb}
use borrow.Author.Tests.{eq-eqb, eqb-true}
use Rattle.words.specs.Words.{same}

and_false : (b : Bool) → b && false ≡ false
and_false true = refl
and_false false = refl

pub same_lengths : (v w : List ℕ) → (length v ≡ length w → ⊥) → same v w ≡ false
unfolding same
same_lengths [] [] n = absurd (n refl)
same_lengths [] (x ∷ w) n = refl
same_lengths (x ∷ v) [] n = refl
same_lengths (x ∷ v) (y ∷ w) n = rw (same_lengths v w (λ e. n (ap suc e))) (and_false (eqb x y))

pub same_is : (v w : List ℕ) → same v w ≡ true → v ≡ w
unfolding same
same_is [] [] e = refl
same_is [] (y ∷ w) e = absurd (false≢true e)
same_is (x ∷ v) [] e = absurd (false≢true e)
same_is (x ∷ v) (y ∷ w) e = first (eqb x y) refl e (same_is v w)
  where
    first : (b : Bool) → eqb x y ≡ b → b && same v w ≡ true → (same v w ≡ true → v ≡ w) → x ∷ v ≡ y ∷ w
    first true p q later = ap (λ (z : ℕ). z ∷ v) (eqb-true x y p) ∙ ap (λ (r : List ℕ). y ∷ r) (later q)
    first false p q later = absurd (false≢true q)

pub same_itself : (v : List ℕ) → same v v ≡ true
unfolding same
same_itself [] = refl
same_itself (x ∷ v) = rw (eq-eqb x x refl, same_itself v)
