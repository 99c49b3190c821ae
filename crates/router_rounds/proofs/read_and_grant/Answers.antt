-- Part 2 behind part 1; where nothing stirs, both leave all as it is.
use Rattle.std.proofs.Common.{rules, ◌≡◌, arith, sym, ap, ◌∙◌}
use Rattle.router_rounds.specs.Addresses.{part1}
use Rattle.router_rounds.specs.Grants.{part2}
use Rattle.router_rounds.specs.InWords.{kept, in_words, tally, uncounted}
use Rattle.router_rounds.specs.declared.Totals.{Totals}
use Rattle.router_rounds.proofs.CountLaws.{part1_adds, part2_adds}
use Rattle.router_rounds.proofs.GrantLaws.{reads_still, grants_still, none_stirs, none_waits}
use Rattle.router_rounds.proofs.PartLaws.{added_none, few_done, both_parts}
use Rattle.router_rounds.proofs.read_and_grant.Goals as goal

pub returns-then-not-some_stir : goal.returns-then-not-some_stir
returns-then-not-some_stir c =
    let a = c.args in
    let w = kept a.state.now a.area.now in
    let still = sym c.some_stir.ensures ∙ c.if-not-some_stir.true in
    let nothing : c.default.result ≡ uncounted = search rules in
    λ k.
    rw nothing (
    ap (λ (d : Totals). tally d w) (added_none k)
    ∙ sym (ap (part2 in_words) (reads_still in_words (tally k w) (none_stirs a.state.now still) a.table.now)
    ∙ grants_still in_words (tally k w) (none_waits a.state.now still))
    )

pub add-requires : goal.add-requires
add-requires c =
    let a = c.args in
    let read = few_done (part1 in_words a.table.now) 11 _ _ c.read_all-done.result (part1_adds in_words a.table.now) c.read_all-done.ensures in
    let granted = few_done (part2 in_words) 11 _ _ c.grant_all.result (part2_adds in_words a.table.now)
    (λ k. c.grant_all.ensures k a.area.now) in
    (omega (arith, read, granted), omega (arith, read, granted), omega (arith, read, granted))

pub returns : goal.returns
returns c =
    let a = c.args in
    rw c.add.ensures (both_parts (part1 in_words a.table.now) (part2 in_words) _ _ _ _ _ c.read_all-done.ensures
    (λ k. c.grant_all.ensures k a.area.now))
