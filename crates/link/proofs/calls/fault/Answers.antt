-- The table sees a fault that is not ignored.
-- Assumes nothing.
use mathlib.Core.Path.{refl, sym, ap, ◌∙◌}
use lib.ListN.{length}
use Rattle.vocabulary.specs.Refusals.{CHAR}
use Rattle.link.specs.Received.{fault_event}
use Rattle.link.specs.Calls.{fault_outcome}
use Rattle.link.specs.LinkWords.{link_of}
use Rattle.link.specs.LinkCalls.{fault_left, no_fault, end_of}
use Rattle.link.proofs.RefusedLaws.{both, fault}
use Rattle.link.proofs.TestedLaws.{past, stops, answers, handed_on, past_both, both_stops}
use Rattle.link.proofs.CallLaws.{accepted_left}
use Rattle.link.proofs.FaultLaws.{named, fault_refused_as}
use Rattle.link.proofs.calls.fault.Goals as goal

pub returns-in_err-both : goal.returns-in_err-both
returns-in_err-both c =
    let a = c.args in
    rw (handed_on _ c.from_residual.ensures)
    (fault_refused_as a.words.now a.rx.now a.tx.now a.kind _ (both_stops _ _ c.in_err-both.ensures))

pub returns-in_err-try_from : goal.returns-in_err-try_from
returns-in_err-try_from c =
    let a = c.args in
    rw (handed_on _ c.from_residual-in_err-try_from.ensures)
    (fault_refused_as a.words.now a.rx.now a.tx.now a.kind _
    (past_both c.in_ok-both.ensures (stops CHAR _ _ refl c.in_err-try_from.ensures)))

pub returns : goal.returns
unfolding fault_left fault_outcome end_of
returns c =
    let a = c.args in
    let passed = both a.words.now (length a.rx.now) (length a.tx.now) (sym c.in_ok-both.ensures) in
    let known = fault a.words.now (length a.rx.now) (length a.tx.now) a.kind
    (sym (past_both c.in_ok-both.ensures (past CHAR _ refl c.in_ok-try_from.ensures refl))) in
    let event = c.fault_event-event.ensures _ passed.0.own
    ∙ ap (fault_event (link_of a.words.now)) (answers CHAR _ (no_fault a.kind) c.in_ok-try_from.ensures) in
    let left = c.settle.ensures passed.1 passed.2 _ passed.0.own in
    rw (left.0, left.1, left.2, named a.kind known.1 (end_of a.words.now a.rx.now a.tx.now), event)
    (sym (accepted_left a.words.now a.rx.now a.tx.now _ passed.0.is_link_lem passed.0.passes))
