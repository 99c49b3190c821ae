-- What an input that is passed says goes from those that are left to those that were passed.
use Rattle.std.proofs.Common.{◌+◌, ◌-◌, ◌||◌, Bool, sym, ap, ◌∙◌}
use Rattle.router_ports.specs.Each.{any}
use Rattle.router_ports.proofs.EachLaws.{any_next, any_done, or_joins, or_false}
use Rattle.router_rounds.proofs.GrantLaws.{stirs_at}
use Rattle.router_rounds.proofs.quiet.some_stir.Goals as goal

pub loop-i-preserved : goal.loop-i-preserved
loop-i-preserved c =
    let l = c.loop-i in
    let s = c.args.state.now in
    l.invariant
    ∙ ap (λ (b : Bool). l.stir || b)
    (any_next (stirs_at s) l.i 11 c.loop-i-test.true
    ∙ ap (λ (b : Bool). b || any (stirs_at s) (l.i + 1) (11 - (l.i + 1))) (sym c.stirs-stir.ensures))
    ∙ or_joins l.stir _ _

pub returns : goal.returns
returns c =
    let l = c.loop-i in
    sym (l.invariant ∙ ap (λ (b : Bool). l.stir || b) (any_done (stirs_at c.args.state.now) l.i 11 c.loop-i-test.false) ∙ or_false l.stir)
