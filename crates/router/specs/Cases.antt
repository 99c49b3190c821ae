-- 01, Numbers to hold it to: the starred cases of rows and the two runs, ready to be gathered.
-- Assumes nothing.
use Rattle.std.specs.Prelude.{◌≡◌, false, List, [], ◌∷◌, ℕ, replicate}
use Rattle.vocabulary.specs.NChars.{EOP}
use Rattle.store.specs.Ring.{waiting}
use Rattle.router_table.specs.Rows.{INVALID, fresh_table, row_at}
use Rattle.router_table.specs.Headings.{address_heading}
use Rattle.router_table.specs.declared.Heading.TheVariants.{Ports}
use Rattle.router_ports.specs.Ports.{fresh_router, store_at, output_store}
use Rattle.router_ports.specs.Places.{Machine, machine, places_at}
use Rattle.router.specs.Calls.{Run, puts, runs, writes_row}

-- fresh, with 22 stores of nine places
abbrev pub smallest : Machine
smallest = machine fresh_router (replicate 198 0)

-- a list put to an input, each N-Char by its own call
abbrev pub holding : Machine → ℕ → List ℕ → Machine
holding x port [] = x
holding x port (n ∷ ns) = holding (puts x port n).now port ns

abbrev pub held_out : Machine → ℕ → List ℕ
held_out x port = waiting (places_at x.area (output_store port)) (store_at x.router (output_store port))

abbrev pub routed : Run
routed = runs (holding smallest 1 (3 ∷ 65 ∷ EOP ∷ [])) fresh_table 10

abbrev pub astray : Run
astray = runs (holding smallest 1 (11 ∷ EOP ∷ [])) fresh_table 10

pub record RouterCases : Type 0 where
  -- "Row 39 written 0x20000801: 0x80000000."
  pub row_without_port : row_at (writes_row fresh_router fresh_table 39 0x20000801) 39 ≡ INVALID
  -- "Written 0x00000004: port 2."
  pub row_with_port :
      address_heading (writes_row fresh_router fresh_table 39 0x00000004) 39
      ≡ Ports (record { ports = 4; high = false; delete = false })
  -- "Input 1 holds 3, 65, EOP: run of 10 reports 3 rounds, 2 moved; output 3 holds 65, EOP."
  pub run_rounds : routed.rounds ≡ 3
  pub run_moved : routed.moved ≡ 2
  pub run_output : held_out routed.now 3 ≡ 65 ∷ EOP ∷ []
  -- "Input 1 holds 11, EOP: 3 rounds, 0 moved, one address error."
  pub stray_rounds : astray.rounds ≡ 3
  pub stray_moved : astray.moved ≡ 0
  pub stray_errors : astray.errors ≡ 1
