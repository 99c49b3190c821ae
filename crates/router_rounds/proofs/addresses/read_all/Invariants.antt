-- Part 1 port by port.
use Rattle.router_rounds.specs.Addresses.{addresses}
use Rattle.router_rounds.specs.InWords.{kept, in_words}
use Rattle.router_rounds.proofs.PartLaws.{Served}
use Rattle.router_rounds.proofs.addresses.read_all.Given as goal

abbrev pub invariant-loop-i : goal.invariant-loop-i
invariant-loop-i l =
    Served (addresses in_words l.table) (kept l.initial.state l.area) l.i l.done (kept l.state l.area)
