-- 01, The router: a run "stops after the first that changes nothing". What the mark of a round says.
-- Assumes nothing.
use Rattle.std.specs.Prelude.{◌≡◌, false, List, ℕ}
use Rattle.router_rounds.specs.Acts.{Acts, Tally, count_round}
use Rattle.router_rounds.specs.Rounds.{round}

-- an unmarked round left the whole state and area, and the counts of moves and errors, as they were
abbrev pub UnmarkedIsStill : {X : Type 0} → Acts X → Type 0
UnmarkedIsStill {X} M = (table : List ℕ) (t : Tally X) → (round M table t).changed ≡ false → round M table t ≡ count_round t
