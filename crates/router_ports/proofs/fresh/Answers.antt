-- Each output in turn is written as free.
-- Assumes nothing.
use Rattle.std.proofs.Common.{◌≡◌, refl, ap, ◌∙◌, arith}
use Rattle.router_ports.proofs.FreshLaws.{written, one_more, all_written}
use Rattle.router_ports.proofs.fresh.Goals as goal

pub loop-o-init : goal.loop-o-init
unfolding written
loop-o-init c = refl

pub loop-o-preserved : goal.loop-o-preserved
loop-o-preserved c = one_more c.loop-o.words _ c.loop-o.o c.loop-o.invariant c.set_output.ensures

pub returns : goal.returns
returns c = c.loop-o.invariant ∙ ap written (let all : c.loop-o.o ≡ 11 = omega arith in all) ∙ all_written
