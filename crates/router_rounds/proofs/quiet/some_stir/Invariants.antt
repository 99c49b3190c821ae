-- One of all inputs stirs where one that was passed does, or one of those that are left.
use Rattle.std.proofs.Common.{◌≡◌, ◌-◌, ◌||◌}
use Rattle.router_ports.specs.Each.{any}
use Rattle.router_rounds.proofs.GrantLaws.{stirs_at}
use Rattle.router_rounds.proofs.quiet.some_stir.Given as goal

abbrev pub invariant-loop-i : goal.invariant-loop-i
invariant-loop-i l = any (stirs_at l.state) 0 11 ≡ (l.stir || any (stirs_at l.state) l.i (11 - l.i))
