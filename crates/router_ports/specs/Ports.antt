-- 01, The router: "Ports 0 to 10: 0 configuration, 1 to 8 links, 9 and 10 external." What is kept of each.
-- A port or store past the last is idle, free or empty, and is not changed.
-- Assumes nothing.
use Rattle.std.specs.Prelude.{ℕ, ◌+◌, ◌/◌, ◌%◌, ◌^◌, Bool, get_or, set, replicate, eqb, ltb, None}
use Rattle.vocabulary.specs.Choice.{pick}
use Rattle.store.specs.Changes.{fresh_store}
use Rattle.store.specs.declared.Store.{Store}
use Rattle.router_ports.specs.declared.Mode.{Mode}
use Rattle.router_ports.specs.declared.Mode.TheVariants.{Idle}
use Rattle.router_ports.specs.Records.{Input}
use Rattle.router_ports.specs.declared.Output.{Output}
use Rattle.router_ports.specs.Records.{Router}

-- "Each has an input store, put to by the host, and an output store, taken from by it." Inputs' stores come first.
abbrev pub input_store : ℕ → ℕ
input_store port = port

abbrev pub output_store : ℕ → ℕ
output_store port = 11 + port

-- a set of ports is a number whose bit p is port p
abbrev pub wants : ℕ → ℕ → Bool
wants ports port = eqb (ports / 2 ^ port % 2) 1

abbrev pub idle : Input
idle = record { mode = Idle }

-- "its last granted input (10 at the start)"
abbrev pub free : Output
free = record { owner = None; last = 10 }

abbrev pub no_output : Output
no_output = record { owner = None; last = 0 }

unfoldable pub fresh_router : Router
fresh_router =
    record { inputs = replicate 11 idle; outputs = replicate 11 free; stores = replicate 22 fresh_store }

abbrev pub mode_at : Router → ℕ → Mode
mode_at s i = pick (ltb i 11) (get_or s.inputs i idle).mode Idle

abbrev pub output_at : Router → ℕ → Output
output_at s o = pick (ltb o 11) (get_or s.outputs o no_output) no_output

abbrev pub store_at : Router → ℕ → Store
store_at s k = pick (ltb k 22) (get_or s.stores k fresh_store) fresh_store

unfoldable pub with_mode : Router → ℕ → Mode → Router
with_mode s i m =
    pick (ltb i 11)
    (record { inputs = set s.inputs i (record { mode = m }); outputs = s.outputs; stores = s.stores })
    s

unfoldable pub with_output : Router → ℕ → Output → Router
with_output s o out =
    pick (ltb o 11) (record { inputs = s.inputs; outputs = set s.outputs o out; stores = s.stores }) s

unfoldable pub with_store : Router → ℕ → Store → Router
with_store s k st =
    pick (ltb k 22) (record { inputs = s.inputs; outputs = s.outputs; stores = set s.stores k st }) s
