-- `link::moves::next_state` meets its contract: what came moves no state, so the other columns are looked at.
-- Assumes nothing.
use Rattle.std.proofs.Common.{rules, sym, ◌∙◌}
use Rattle.link.specs.Moves.{conditions}
use Rattle.link.proofs.TableLaws.{same_is_state, event_stays}
use Rattle.link.proofs.moves.next_state.Goals as goal

pub returns-then-eq : goal.returns-then-eq
returns-then-eq c = λ l e.
    let s = c.state_in-state.ensures l e in
    let to = rw s at c.look_up-to.ensures in
    let same = sym (same_is_state _ _) ∙ sym c.eq.ensures ∙ c.if-eq.true in
    c.first_other.ensures l e
    ∙ sym (event_stays l.stage.state c.args.e (conditions l) _ (search rules) (rw (to, s) at same))
