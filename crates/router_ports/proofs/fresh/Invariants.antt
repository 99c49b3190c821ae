-- The outputs passed are free, the others all zeros.
-- Assumes nothing.
use Rattle.std.proofs.Common.{◌≡◌}
use Rattle.router_ports.proofs.FreshLaws.{written}
use Rattle.router_ports.proofs.fresh.Given as goal

abbrev pub invariant-loop-o : goal.invariant-loop-o
invariant-loop-o l = l.words ≡ written l.o
