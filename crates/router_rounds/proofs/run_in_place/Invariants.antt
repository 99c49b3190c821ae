-- The rounds that are left, from the words and area as they are on, end as all of them do; and each that was run added at
-- most thirty-three to a count.
use Rattle.router_rounds.specs.InWords.{kept}
use Rattle.router_rounds.proofs.RunLaws.{Ran}
use Rattle.router_rounds.proofs.run_in_place.Given as goal

abbrev pub invariant-loop : goal.invariant-loop
invariant-loop l = Ran l.table l.limit (kept l.initial.state l.initial.area) l.counter l.totals (kept l.state l.area)
