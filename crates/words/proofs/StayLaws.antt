-- A choice between two calls leaves the words of a refused call where both do.
-- Assumes nothing.
use Prim.Native.Nat.{ℕ}
use mathlib.Core.Path.{◌≡◌, refl}
use mathlib.Core.Bool.{Bool, true, false}
use mathlib.Core.List.{List}
use Rattle.vocabulary.specs.Choice.{pick}
use Rattle.words.specs.Words.{Left, Stays}

pub pick_stays : (words zeros : List ℕ) (test : Bool) (this that : Left) →
    (test ≡ true → Stays words zeros this) → Stays words zeros that → Stays words zeros (pick test this that)
pick_stays words zeros true this that f g = f refl
pick_stays words zeros false this that f g = g
