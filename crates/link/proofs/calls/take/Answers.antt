-- The front N-Char is taken.
-- Assumes nothing.
use mathlib.Core.Path.{sym}
use lib.ListN.{length}
use Rattle.link.proofs.RefusedLaws as refused
use Rattle.link.proofs.TestedLaws.{handed_on}
use Rattle.link.proofs.CallLaws.{take_accepted_lem, take_refused_as}
use Rattle.link.proofs.calls.take.Goals as goal

pub returns-in_err-take : goal.returns-in_err-take
returns-in_err-take c =
    let a = c.args in
    rw (handed_on _ c.from_residual.ensures) (take_refused_as a.words.now a.rx.now _ c.in_err-take.ensures)

pub returns : goal.returns
returns c =
    let a = c.args in
    let passed = refused.take a.words.now (length a.rx.now) (sym c.in_ok-take.ensures) in
    let left = c.take_one.ensures in
    rw (left.0 passed.1 _ passed.0.own, left.1 _ passed.0.own)
    (sym (take_accepted_lem a.words.now a.rx.now passed.0.is_link_lem passed.0.passes))
