-- Part 3 port by port.
use Rattle.router_rounds.specs.Moves.{sends}
use Rattle.router_rounds.specs.InWords.{kept, in_words}
use Rattle.router_rounds.proofs.PartLaws.{Served}
use Rattle.router_rounds.proofs.moves.send_all.Given as goal

abbrev pub invariant-loop-i : goal.invariant-loop-i
invariant-loop-i l =
    Served (sends in_words) (kept l.initial.state l.initial.area) l.i l.done (kept l.state l.area)
