-- What an input does and what an output is held by: each case by number, with the values that it carries. A case that
-- carries no such value has zero.
-- Assumes nothing.
use Rattle.std.specs.Prelude.{ℕ, Bool, true, false, Option, None, Some}
use Rattle.router_ports.specs.declared.Wanted.{Wanted}
use Rattle.router_ports.specs.declared.Mode.{Mode}
use Rattle.router_ports.specs.declared.Mode.TheVariants.{Idle, Waiting, Routed, Spilling}

-- 01, The router, the words of a round: "idle input", "waiting inputs", "routed input", "spilling input"
abbrev pub mode_number : Mode → ℕ
mode_number Idle = 0
mode_number (Waiting w) = 1
mode_number (Routed o) = 2
mode_number Spilling = 3

abbrev pub is_idle : Mode → Bool
is_idle Idle = true
is_idle (Waiting w) = false
is_idle (Routed o) = false
is_idle Spilling = false

abbrev pub is_waiting : Mode → Bool
is_waiting Idle = false
is_waiting (Waiting w) = true
is_waiting (Routed o) = false
is_waiting Spilling = false

abbrev pub wants_nothing : Wanted
wants_nothing = record { ports = 0; high = false }

-- the ports that a waiting input wants, and its priority
abbrev pub mode_wanted : Mode → Wanted
mode_wanted Idle = wants_nothing
mode_wanted (Waiting w) = w
mode_wanted (Routed o) = wants_nothing
mode_wanted Spilling = wants_nothing

-- the output of a routed input
abbrev pub mode_output : Mode → ℕ
mode_output Idle = 0
mode_output (Waiting w) = 0
mode_output (Routed o) = o
mode_output Spilling = 0

-- "free output", or one with an owner
abbrev pub owner_number : Option ℕ → ℕ
owner_number None = 0
owner_number (Some i) = 1

-- the input that owns it
abbrev pub owner_input : Option ℕ → ℕ
owner_input None = 0
owner_input (Some i) = i
