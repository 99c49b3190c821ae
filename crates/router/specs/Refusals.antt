-- 01, The ten refusals, as far as they concern the router: what each call tests, in the paper's order. "A call tests what it
-- is lent": put, take and run the state and the area, the two row calls and the question what is still held the state.
-- Assumes nothing.
use Rattle.std.specs.Prelude.{ℕ, Bool, List, [], ◌∷◌, ltb}
use Rattle.vocabulary.specs.Choice.{pick}
use Rattle.vocabulary.specs.NChars.{above_eep}
use Rattle.vocabulary.specs.Refusals.{STATE, STORE, PORT, ROW, CHAR, ROUNDS, EMPTY, FULL, Test, number, test, first_of}
use Rattle.router_table.specs.Rows.{outside_rows}
use Rattle.router_ports.specs.Ports.{input_store, output_store}
use Rattle.router_ports.specs.Places.{Machine, bad_area, empty_at, full_at}
use Rattle.router_ports.specs.Refusals.{bad_ports, bad_stores}
use Rattle.router_ports.specs.Records.{Router}

-- "Tests that need a store's size come after 2."
abbrev pub lent : Machine → List Test → List Test
lent x later =
    test STATE (bad_ports x.router) ∷ test STORE (bad_area x.area) ∷ test STATE (bad_stores x.router x.area) ∷ later

abbrev pub lent_refusal : Machine → ℕ → ℕ
lent_refusal x later =
    pick (bad_ports x.router) (number STATE)
    (pick (bad_area x.area) (number STORE) (pick (bad_stores x.router x.area) (number STATE) later))

-- 3 PORT: "above 10"
abbrev pub no_port : ℕ → Bool
no_port port = ltb 10 port

abbrev pub put_tests : Machine → ℕ → ℕ → List Test
put_tests x port n = lent x (test PORT (no_port port) ∷ test CHAR (above_eep n) ∷ test FULL (full_at x (input_store port)) ∷ [])

abbrev pub put_refusal : Machine → ℕ → ℕ → ℕ
put_refusal x port n = first_of (put_tests x port n)

abbrev pub take_tests : Machine → ℕ → List Test
take_tests x port = lent x (test PORT (no_port port) ∷ test EMPTY (empty_at x (output_store port)) ∷ [])

abbrev pub take_refusal : Machine → ℕ → ℕ
take_refusal x port = first_of (take_tests x port)

-- 6 ROUNDS: "above 10,000"
abbrev pub run_tests : Machine → ℕ → List Test
run_tests x limit = lent x (test ROUNDS (ltb 10000 limit) ∷ [])

abbrev pub run_refusal : Machine → ℕ → ℕ
run_refusal x limit = first_of (run_tests x limit)

-- 4 ROW: "outside 32 to 255"
abbrev pub row_tests : Router → ℕ → List Test
row_tests s row = test STATE (bad_ports s) ∷ test ROW (outside_rows row) ∷ []

abbrev pub row_refusal : Router → ℕ → ℕ
row_refusal s row = first_of (row_tests s row)

abbrev pub held_tests : Router → ℕ → List Test
held_tests s port = test STATE (bad_ports s) ∷ test PORT (no_port port) ∷ []

abbrev pub held_refusal : Router → ℕ → ℕ
held_refusal s port = first_of (held_tests s port)
