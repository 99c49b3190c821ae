-- 01, The router: "A round has three parts, each in port order", and a run of rounds.
-- Assumes nothing.
use Rattle.std.specs.Prelude.{ℕ, zero, suc, false, List}
use Rattle.vocabulary.specs.Choice.{pick}
use Rattle.router_rounds.specs.Acts.{Acts, Tally, count_round}
use Rattle.router_rounds.specs.Addresses.{part1}
use Rattle.router_rounds.specs.Grants.{part2}
use Rattle.router_rounds.specs.Moves.{part3}

-- a run that has not begun
unfoldable pub begun : {X : Type 0} → X → Tally X
begun x = record { now = x; rounds = 0; moved = 0; errors = 0; changed = false }

module _ {X : Type 0} (M : Acts X) (table : List ℕ) where
  unfoldable pub round : Tally X → Tally X
  round t = part3 M (part2 M (part1 M table (count_round t)))

  -- "A run takes up to 10,000 rounds, stops after the first that changes nothing"
  unfoldable pub rounds : ℕ → Tally X → Tally X
  rounds zero t = t
  rounds (suc limit) t = pick (round t).changed (rounds limit (round t)) (round t)
