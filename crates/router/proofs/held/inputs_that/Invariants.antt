-- Both sets are those of the inputs from i on.
-- Assumes nothing.
use Rattle.std.proofs.Common.{◌≡◌, ◌-◌}
use Rattle.router_ports.specs.Ports.{mode_at}
use Rattle.router_ports.specs.RouterWords.{router_of}
use Rattle.router.specs.Held.{awaits, unmoved_at, set_of}
use Rattle.router.proofs.held.inputs_that.Given as goal

abbrev pub invariant-loop-i : goal.invariant-loop-i
invariant-loop-i l =
    (l.wanted ≡ set_of (λ i. awaits l.port (mode_at (router_of l.words) i)) l.i (11 - l.i))
    × (l.unread ≡ set_of (unmoved_at (router_of l.words)) l.i (11 - l.i))
