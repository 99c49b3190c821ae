-- The N-Char is stored or discarded.
-- Assumes nothing.
use mathlib.Core.Path.{sym}
use lib.ListN.{length}
use Rattle.words.specs.Arguments.{fitted}
use Rattle.link.proofs.RefusedLaws as refused
use Rattle.link.proofs.TestedLaws.{handed_on}
use Rattle.link.proofs.CallLaws.{put_accepted, put_refused_as}
use Rattle.link.proofs.calls.put.Goals as goal

pub returns-in_err-put : goal.returns-in_err-put
returns-in_err-put c =
    let a = c.args in
    rw (handed_on _ c.from_residual.ensures)
    (put_refused_as a.words.now a.tx.now a.nchar _ (rw c.fitted-n.ensures at c.in_err-put.ensures))

pub returns : goal.returns
returns c =
    let a = c.args in
    let passed = refused.put a.words.now (length a.tx.now) (fitted a.nchar) (sym (rw c.fitted-n.ensures at c.in_ok-put.ensures)) in
    let left = rw c.fitted-n.ensures at c.put_one.ensures in
    rw (left.0 passed.1 _ passed.0.own, left.1 _ passed.0.own, left.2 _ passed.0.own)
    (sym (put_accepted a.words.now a.tx.now a.nchar passed.0.is_link_lem passed.0.passes))
