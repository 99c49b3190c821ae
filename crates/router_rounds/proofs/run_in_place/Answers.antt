-- One round more, from the invariant on: its counts are few, and where it changed nothing the run is over.
use Rattle.std.proofs.Common.{rules, ◌≡◌, ◌^◌, ◌<◌, arith}
use Rattle.router_rounds.specs.InWords.{kept, uncounted}
use Rattle.router_rounds.proofs.RunLaws.{none_ran, all_ran, few_more, one_ran, last_ran}
use Rattle.router_rounds.proofs.run_in_place.Goals as goal

pub loop-init : goal.loop-init
loop-init c =
    let a = c.args in
    let nothing : c.default-totals.result ≡ uncounted = search rules in
    rw nothing (none_ran a.table.now a.limit (kept a.state.now a.area.now))

pub add-requires : goal.add-requires
add-requires c =
    let a = c.args in
    let few = few_more a.table.now a.limit (kept a.state.now a.area.now) c.loop.counter c.loop.totals _ _ _ _ c.loop-test.true
    c.loop.invariant c.begin_round.ensures c.one_round.ensures in
    let most : a.limit < 2 ^ 16 = omega (arith, c.ranges.limit) in
    (omega (arith, few, most), omega (arith, few, most), omega (arith, few, most))

pub returns-then-not-totals-clause-area_after : goal.returns-then-not-totals-clause-area_after
returns-then-not-totals-clause-area_after c =
    let a = c.args in
    last_ran a.table.now a.limit (kept a.state.now a.area.now) c.loop.counter c.loop.totals _ _ _ _ c.loop-test.true
    c.loop.invariant c.begin_round.ensures c.one_round.ensures _ c.add.ensures c.if-not-totals.true

pub returns-then-not-totals-clause-rounds_bound : goal.returns-then-not-totals-clause-rounds_bound
returns-then-not-totals-clause-rounds_bound c =
    let a = c.args in
    let few = few_more a.table.now a.limit (kept a.state.now a.area.now) c.loop.counter c.loop.totals _ _ _ _ c.loop-test.true
    c.loop.invariant c.begin_round.ensures c.one_round.ensures in
    let most : a.limit < 2 ^ 16 = omega (arith, c.ranges.limit) in
    rw c.add.ensures (omega (arith, few, most), omega (arith, few, most), omega (arith, few, most))

pub loop-preserved : goal.loop-preserved
loop-preserved c =
    let a = c.args in
    one_ran a.table.now a.limit (kept a.state.now a.area.now) c.loop.counter c.loop.totals _ _ _ _ c.loop-test.true
    c.loop.invariant c.begin_round.ensures c.one_round.ensures _ c.add.ensures c.if-not-totals.false

pub returns-clause-area_after : goal.returns-clause-area_after
returns-clause-area_after c =
    let a = c.args in
    all_ran a.table.now a.limit (kept a.state.now a.area.now) c.loop.counter c.loop.totals _ c.loop-test.false c.loop.invariant
