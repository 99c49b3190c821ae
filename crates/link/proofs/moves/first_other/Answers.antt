-- `link::moves::first_other` meets its contract: a condition is left behind where its cell is the state itself or it does not hold.
-- Assumes nothing.
use Rattle.std.proofs.Common.{sym, ◌∙◌, ◌+◌, arith, ◌≡◌}
use borrow.Author.Tests.{not-true, not-false}
use Rattle.link.specs.Moves.{conditions}
use Rattle.link.proofs.TableLaws.{same_is_state, first_found, first_stays, first_passes, numbered, tagged}
use Rattle.link.proofs.moves.first_other.Goals as goal
use Rattle.link.proofs.moves.first_other.Goals.{else-ne-via-then-ne+else-holds, else-ne-via-else-ne}

pub returns-then-holds : goal.returns-then-holds
returns-then-holds c = λ l e.
    let n = c.loop-condition.condition-index in
    let inside = c.loop-condition-test.true in
    let s = c.state_in-state.ensures l e in
    let to = rw (s, tagged n inside) at c.look_up-to.ensures in
    let differs = rw (to, s) at (sym (same_is_state _ _) ∙ not-true _ (sym c.ne.ensures ∙ c.if-ne.true)) in
    let holds = sym (rw (numbered n inside) at (c.holds.ensures l e)) ∙ c.if-holds.true in
    to ∙ sym (c.loop-condition.invariant l e ∙ first_found l.stage.state (conditions l) (6 + n) (omega arith) differs holds)

pub loop-condition-preserved : goal.loop-condition-preserved
loop-condition-preserved c = λ l e.
    let n = c.loop-condition.condition-index in
    let inside = c.loop-condition-test.true in
    let s = c.state_in-state.ensures l e in
    let to = rw (s, tagged n inside) at c.look_up-to.ensures in
    let on : 6 + (n + 1) ≡ 6 + n + 1 = omega arith in
    rw on (c.loop-condition.invariant l e
    ∙ elim c.else-ne.branch [
      | else-ne-via-then-ne+else-holds w ↦
          first_passes l.stage.state (conditions l) (6 + n) (omega arith)
          (sym (rw (numbered n inside) at (w.holds.ensures l e)) ∙ w.if-holds.false)
      | else-ne-via-else-ne w ↦
          first_stays l.stage.state (conditions l) (6 + n) (omega arith)
          (rw (to, s) at (sym (same_is_state _ _) ∙ not-false _ (sym c.ne.ensures ∙ w.if-ne.false)))
    ])
