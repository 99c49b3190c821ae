-- The Time-Code waits.
-- Assumes nothing.
use mathlib.Core.Path.{sym}
use Rattle.link.proofs.RefusedLaws as refused
use Rattle.link.proofs.TestedLaws.{handed_on}
use Rattle.link.proofs.CallLaws.{offer_accepted_lem, offer_refused_as}
use Rattle.link.proofs.calls.offer.Goals as goal

pub returns-in_err-offer : goal.returns-in_err-offer
returns-in_err-offer c =
    rw (handed_on _ c.from_residual.ensures) (offer_refused_as c.args.words.now c.args.code _ c.in_err-offer.ensures)

pub returns : goal.returns
returns c =
    let a = c.args in
    let passed = refused.offer a.words.now (sym c.in_ok-offer.ensures) in
    rw (c.offer_code.ensures _ passed.own) (sym (offer_accepted_lem a.words.now a.code passed.is_link_lem passed.passes))
