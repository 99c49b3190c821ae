-- Part 3 behind parts 1 and 2.
use Rattle.std.proofs.Common.{arith}
use Rattle.router_rounds.specs.Acts.{Tally}
use Rattle.router_rounds.specs.Addresses.{part1}
use Rattle.router_rounds.specs.Grants.{part2}
use Rattle.router_rounds.specs.Moves.{part3}
use Rattle.router_rounds.specs.InWords.{Words, in_words}
use Rattle.router_rounds.proofs.CountLaws.{first_parts_add, part3_adds}
use Rattle.router_rounds.proofs.PartLaws.{few_done, both_parts}
use Rattle.router_rounds.proofs.one_round.Goals as goal

pub add-requires : goal.add-requires
add-requires c =
    let a = c.args in
    let granted = few_done (λ (t : Tally Words). part2 in_words (part1 in_words a.table.now t)) 22 _ _ c.read_and_grant-done.result
    (first_parts_add in_words a.table.now) c.read_and_grant-done.ensures in
    let sent = few_done (part3 in_words) 11 _ _ c.send_all.result (part3_adds in_words a.table.now) c.send_all.ensures in
    (omega (arith, granted, sent), omega (arith, granted, sent), omega (arith, granted, sent))

pub returns : goal.returns
returns c =
    let a = c.args in
    rw c.add.ensures (both_parts (λ (t : Tally Words). part2 in_words (part1 in_words a.table.now t)) (part3 in_words) _ _ _ _ _
    c.read_and_grant-done.ensures c.send_all.ensures)
