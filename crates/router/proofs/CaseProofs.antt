-- The cases of rows and the two runs hold: antt computes them.
-- Assumes nothing.
use mathlib.Core.Path.{refl}
use Rattle.store.specs.Ring.{standing}
use Rattle.store.specs.Changes.{fresh_store, put_store, put_places, dropped}
use Rattle.router_table.specs.Rows.{fresh_table, with_row}
use Rattle.router_table.specs.Headings.{to_port, by_row, row_heading, address_heading, heading}
use Rattle.router_ports.specs.Each.{each, any}
use Rattle.router_ports.specs.Ports.{fresh_router, with_mode, with_output, with_store}
use Rattle.router_ports.specs.Places.{without_front, with_behind}
use Rattle.router_ports.specs.Refusals.{bad_ports, bad_stores}
use Rattle.router_rounds.specs.Acts.{changed_to, count_moved, count_error, count_round}
use Rattle.router_rounds.specs.Addresses.{waits, reads, addresses, part1}
use Rattle.router_rounds.specs.Grants.{cyclic, candidates, first_that, granted, grants, part2}
use Rattle.router_rounds.specs.Moves.{frees, carries, moves, moves_one, spills, spills_one, sends, part3}
use Rattle.router_rounds.specs.Rounds.{begun, round, rounds}
use Rattle.router.specs.Calls.{puts, told, runs, writes_row}
use Rattle.router.specs.Cases.{RouterCases}

pub router_cases : RouterCases
unfolding
    fresh_store put_store put_places dropped standing fresh_table with_row to_port by_row row_heading address_heading heading each any
    fresh_router with_mode with_output with_store without_front with_behind bad_ports bad_stores changed_to count_moved count_error
    count_round waits reads addresses part1 cyclic candidates first_that granted grants part2 frees carries moves moves_one
    spills spills_one sends part3 begun round rounds puts told runs writes_row
router_cases =
    record {
      row_without_port = refl;
      row_with_port = refl;
      run_rounds = refl;
      run_moved = refl;
      run_output = refl;
      stray_rounds = refl;
      stray_moved = refl;
      stray_errors = refl;
    }
