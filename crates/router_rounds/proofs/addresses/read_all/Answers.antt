-- Each input that is served brings its deed, and after the last all of part 1 is done.
use Rattle.router_rounds.specs.Addresses.{addresses, part1}
use Rattle.router_rounds.specs.InWords.{kept, in_words}
use Rattle.router_rounds.proofs.PartLaws.{one_served, all_served}
use Rattle.router_rounds.proofs.addresses.read_all.Goals as goal

pub loop-i-preserved : goal.loop-i-preserved
loop-i-preserved c =
    one_served (addresses in_words c.args.table.now) (kept c.args.state.now c.args.area.now) c.loop-i.i c.loop-i.done _ _ _ _
    c.loop-i-test.true c.loop-i.invariant c.count.ensures c.address.ensures

pub returns : goal.returns
unfolding part1
returns c =
    all_served (addresses in_words c.args.table.now) (kept c.args.state.now c.args.area.now) c.loop-i.i c.loop-i.done _
    c.loop-i-test.false c.loop-i.invariant
