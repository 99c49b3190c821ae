-- `link::recovery::settle` meets its contract: the end moves to the next state where that is another.
-- Assumes nothing.
use Rattle.std.proofs.Common.{sym, ◌∙◌}
use Rattle.link.specs.Recovery.{settles}
use Rattle.link.proofs.TableLaws.{same_is_state}
use Rattle.link.proofs.recovery.settle.Goals as goal

pub returns-else-eq : goal.returns-else-eq
unfolding settles
returns-else-eq c = λ rx tx l e.
    let next = c.next_state-next.ensures l e in
    let differs = sym (same_is_state _ _) ∙ sym c.eq.ensures ∙ c.if-eq.false in
    rw next at (c.move_to.ensures l e (rw (c.state_in.ensures l e) at differs) rx tx l e)
