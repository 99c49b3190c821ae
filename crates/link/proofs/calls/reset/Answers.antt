-- Both stores are emptied.
-- Assumes nothing.
use mathlib.Core.Path.{sym}
use lib.ListN.{length}
use Rattle.link.specs.Calls.{reset_outcome}
use Rattle.link.specs.LinkCalls.{reset_left, end_of}
use Rattle.link.proofs.RefusedLaws.{both}
use Rattle.link.proofs.TestedLaws.{handed_on}
use Rattle.link.proofs.CallLaws.{accepted_left, refused_as}
use Rattle.link.proofs.calls.reset.Goals as goal

pub returns-in_err-both : goal.returns-in_err-both
unfolding reset_left reset_outcome end_of
returns-in_err-both c =
    let a = c.args in
    rw (handed_on _ c.from_residual.ensures) (refused_as a.words.now a.rx.now a.tx.now _ _ c.in_err-both.ensures)

pub returns : goal.returns
unfolding reset_left reset_outcome end_of
returns c =
    let a = c.args in
    let passed = both a.words.now (length a.rx.now) (length a.tx.now) (sym c.in_ok-both.ensures) in
    let left = c.reset_all.ensures in
    rw (left.0 passed.1 _ passed.0.own, left.1 _ passed.0.own, left.2 _ passed.0.own)
    (sym (accepted_left a.words.now a.rx.now a.tx.now _ passed.0.is_link_lem passed.0.passes))
