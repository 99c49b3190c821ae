-- The timer counts, then the end settles.
-- Assumes nothing.
use mathlib.Core.Path.{sym}
use lib.ListN.{length}
use Rattle.link.specs.Calls.{tick_outcome}
use Rattle.link.specs.LinkCalls.{tick_left, end_of}
use Rattle.link.proofs.RefusedLaws.{both}
use Rattle.link.proofs.TestedLaws.{handed_on}
use Rattle.link.proofs.CallLaws.{accepted_left, refused_as}
use Rattle.link.proofs.calls.tick.Goals as goal

pub returns-in_err-both : goal.returns-in_err-both
unfolding tick_left tick_outcome end_of
returns-in_err-both c =
    let a = c.args in
    rw (handed_on _ c.from_residual.ensures) (refused_as a.words.now a.rx.now a.tx.now _ _ c.in_err-both.ensures)

pub count-requires : goal.count-requires
count-requires c =
    let a = c.args in (both a.words.now (length a.rx.now) (length a.tx.now) (sym c.in_ok-both.ensures)).0.timer

pub returns : goal.returns
unfolding tick_left tick_outcome end_of
returns c =
    let a = c.args in
    let passed = both a.words.now (length a.rx.now) (length a.tx.now) (sym c.in_ok-both.ensures) in
    let left = c.settle.ensures passed.1 passed.2 _ (c.count.ensures _ passed.0.own) in
    rw (left.0, left.1, left.2)
    (sym (accepted_left a.words.now a.rx.now a.tx.now _ passed.0.is_link_lem passed.0.passes))
