-- Part 2 port by port, beside any area. For an output: the first that fits among the candidates that are left is the first
-- among all.
use Rattle.std.proofs.Common.{◌≡◌, List, ℕ, [], drop}
use Rattle.router_rounds.specs.Grants.{candidates, fits, first_that, grants}
use Rattle.router_rounds.specs.InWords.{kept, in_words}
use Rattle.router_rounds.proofs.PartLaws.{Served}
use Rattle.router_rounds.proofs.grants.grant_all.Given as goal

abbrev pub invariant-outputs : goal.invariant-outputs
invariant-outputs l = (area : List ℕ) → Served (grants in_words) (kept l.initial.state area) l.o l.done (kept l.state area)

abbrev pub invariant-loop-k : goal.invariant-loop-k
invariant-loop-k l =
    (l.state ≡ l.initial.state)
    × (l.done ≡ l.initial.done)
    × (first_that (fits in_words (kept l.initial.state []) l.o) (drop l.k (candidates l.output.last))
    ≡ first_that (fits in_words (kept l.initial.state []) l.o) (candidates l.output.last))
