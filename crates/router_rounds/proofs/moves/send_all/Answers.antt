-- Each input that is served brings its deed, and after the last all of part 3 is done.
use Rattle.router_rounds.specs.Moves.{sends, part3}
use Rattle.router_rounds.specs.InWords.{kept, in_words}
use Rattle.router_rounds.proofs.PartLaws.{one_served, all_served}
use Rattle.router_rounds.proofs.moves.send_all.Goals as goal

pub loop-i-preserved : goal.loop-i-preserved
loop-i-preserved c =
    one_served (sends in_words) (kept c.args.state.now c.args.area.now) c.loop-i.i c.loop-i.done _ _ _ _
    c.loop-i-test.true c.loop-i.invariant c.count.ensures c.send.ensures

pub returns : goal.returns
unfolding part3
returns c =
    all_served (sends in_words) (kept c.args.state.now c.args.area.now) c.loop-i.i c.loop-i.done _
    c.loop-i-test.false c.loop-i.invariant
