-- "Show that the promise leaves one answer only": what is claimed of each public function's contract, as the toolchain reads
-- it.
-- Assumes nothing.
use Rattle.std.specs.Prelude.{◌≡◌, List, ℕ}
use contract.Lifetimes.{Lfts}
use denote.Triple.Clauses.{AtExit}
use borrow.Fn.Kinds.{ParamKind, ResultKind, Out, Dens, res_t, ended_of}

-- whatever the arguments: two results that the promise allows, with whatever is left behind the parameters, are one
abbrev pub OneResult : (n : ℕ) (ps : List (ParamKind n)) (r : ResultKind n) → Out n ps r → Type 0
OneResult n ps r promise =
    (κs : Lfts n) (arguments : Dens κs ps) (x y : (res_t r κs).Denot) (s t : AtExit (ended_of n ps r) κs) →
    promise κs arguments x s → promise κs arguments y t → x ≡ y

-- and so are the places of a store that was lent to be changed: `left` finds them among what is left behind the parameters
abbrev pub OnePlaces : (n : ℕ) (ps : List (ParamKind n)) (r : ResultKind n) → Out n ps r →
    ((κs : Lfts n) → AtExit (ended_of n ps r) κs → List ℕ) → Type 0
OnePlaces n ps r promise left =
    (κs : Lfts n) (arguments : Dens κs ps) (x y : (res_t r κs).Denot) (s t : AtExit (ended_of n ps r) κs) →
    promise κs arguments x s → promise κs arguments y t → left κs s ≡ left κs t
