-- The first of the conditions left is the first of all.
-- Assumes nothing.
use Rattle.std.proofs.Common.{◌≡◌, ◌+◌, ◌-◌}
use Rattle.link.specs.Records.{Link}
use Rattle.link.specs.Moves.{conditions}
use Rattle.link.specs.Table.{first_from}
use Rattle.link.specs.LinkWords.{link_words}
use Rattle.link.proofs.moves.first_other.Given as goal

abbrev pub invariant-loop-condition : goal.invariant-loop-condition
invariant-loop-condition l =
    (k : Link) → l.words ≡ link_words k →
    first_from k.stage.state (conditions k) 6 4
    ≡ first_from k.stage.state (conditions k) (6 + l.condition-index) (10 - (6 + l.condition-index))
