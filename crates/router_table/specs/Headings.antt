-- 01, The router, part 1 of a round: what the front N-Char of an idle input says.
-- Assumes nothing.
use Rattle.std.specs.Prelude.{ℕ, ◌^◌, true, false, List, eqb, ltb}
use Rattle.vocabulary.specs.Choice.{pick}
use Rattle.vocabulary.specs.NChars.{is_end}
use Rattle.router_table.specs.Rows.{requests, deletes, is_high, is_invalid, row_at}
use Rattle.router_table.specs.declared.Direction.{Direction}
use Rattle.router_table.specs.declared.Heading.{Heading}
use Rattle.router_table.specs.declared.Heading.TheVariants.{End, Nowhere, Ports}

-- "Address 0 to 10 wants that port, low priority (ours), and is deleted."
unfoldable pub to_port : ℕ → Direction
to_port port = record { ports = 2 ^ port; high = false; delete = true }

-- "Other rows give ports, priority and deletion"
unfoldable pub by_row : ℕ → Direction
by_row row = record { ports = requests row; high = is_high row; delete = deletes row }

-- "a row that is invalid or requests no port"
unfoldable pub row_heading : ℕ → Heading
row_heading row = pick (is_invalid row) Nowhere (pick (eqb (requests row) 0) Nowhere (Ports (by_row row)))

-- "11 to 31" are addresses of no port and of no row
unfoldable pub address_heading : List ℕ → ℕ → Heading
address_heading table address =
    pick (ltb address 11) (Ports (to_port address))
    (pick (ltb address 32) Nowhere (row_heading (row_at table address)))

-- "Each idle input with a front N-Char: an end is discarded (empty packet)."
unfoldable pub heading : List ℕ → ℕ → Heading
heading table n = pick (is_end n) End (address_heading table n)

-- a heading by number, in the order of the paper's sentences, and the values that it carries: ports, priority and deletion
abbrev pub heading_number : Heading → ℕ
heading_number End = 0
heading_number Nowhere = 1
heading_number (Ports d) = 2

abbrev pub no_direction : Direction
no_direction = record { ports = 0; high = false; delete = false }

abbrev pub heading_values : Heading → Direction
heading_values End = no_direction
heading_values Nowhere = no_direction
heading_values (Ports d) = d
