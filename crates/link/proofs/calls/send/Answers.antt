-- The token that is due is booked, then the end settles.
-- Assumes nothing.
use mathlib.Core.Path.{refl, sym}
use lib.ListN.{length}
use Rattle.link.specs.Send.{sending}
use Rattle.link.proofs.RefusedLaws.{both}
use Rattle.link.proofs.TestedLaws.{handed_on}
use Rattle.link.proofs.CallLaws.{send_accepted, send_refused_as}
use Rattle.link.proofs.calls.send.Goals as goal

pub returns-in_err-both : goal.returns-in_err-both
returns-in_err-both c =
    let a = c.args in
    rw (handed_on _ c.from_residual.ensures) (send_refused_as a.words.now a.rx.now a.tx.now _ c.in_err-both.ensures)

pub returns : goal.returns
unfolding sending
returns c =
    let a = c.args in
    let passed = both a.words.now (length a.rx.now) (length a.tx.now) (sym c.in_ok-both.ensures) in
    let left = c.settle-discarded.ensures passed.1 passed.2 _ (c.book.ensures passed.2 _ passed.0.own passed.0.good) in
    rw (left.0, left.1, left.2)
    (sym (send_accepted a.words.now a.rx.now a.tx.now passed.0.is_link_lem passed.0.passes
    (record { link = _; sent = c.choose-token.result }) (rw (c.choose-token.ensures _ passed.0.own passed.0.good)) _ refl))
