-- Each turn puts one more input below those of both sets.
-- Assumes nothing.
use Rattle.std.proofs.Common.{◌≡◌, ◌-◌, ◌<◌, ◌∙◌, refl, sym, arith}
use Rattle.router_ports.specs.Ports.{mode_at}
use Rattle.router_ports.specs.RouterWords.{router_of}
use Rattle.router.specs.Held.{awaits, unmoved_at, set_of, wanted_by, unread, sets_of}
use Rattle.router.proofs.HeldLaws.{set_small, set_next}
use Rattle.router.proofs.held.inputs_that.Goals as goal

pub loop-i-init : goal.loop-i-init
unfolding set_of
loop-i-init c = (refl, refl)

pub one_more-wanted-requires : goal.one_more-wanted-requires
one_more-wanted-requires c = rw c.loop-i.invariant.0 (set_small _ c.loop-i.i (11 - c.loop-i.i) (omega arith))

pub one_more-unread-requires : goal.one_more-unread-requires
one_more-unread-requires c = rw c.loop-i.invariant.1 (set_small _ c.loop-i.i (11 - c.loop-i.i) (omega arith))

pub loop-i-preserved : goal.loop-i-preserved
loop-i-preserved c =
    let some : 0 < c.loop-i.i = omega (arith, c.loop-i-test.true) in
    let more = set_next (λ i. awaits c.args.port (mode_at (router_of c.args.words.now) i)) c.loop-i.i some c.loop-i.auto.i in
    let left = set_next (unmoved_at (router_of c.args.words.now)) c.loop-i.i some c.loop-i.auto.i in (
      c.one_more-wanted.ensures ∙ rw (c.loop-i.invariant.0, c.is_awaited.ensures) (sym more),
      c.one_more-unread.ensures ∙ rw (c.loop-i.invariant.1, c.empty_at.ensures) (sym left),
    )

pub returns : goal.returns
unfolding sets_of wanted_by unread
returns c =
    let none : c.loop-i.i ≡ 0 = omega arith in
    rw (c.loop-i.invariant.0, c.loop-i.invariant.1, none)
