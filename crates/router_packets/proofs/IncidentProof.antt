-- The incident, computed.
-- Assumes nothing.
use mathlib.Core.Path.{refl}
use Rattle.store.specs.Ring.{standing}
use Rattle.store.specs.Changes.{fresh_store, put_store, put_places, dropped}
use Rattle.router_table.specs.Rows.{fresh_table}
use Rattle.router_table.specs.Headings.{to_port, by_row, row_heading, address_heading, heading}
use Rattle.router_ports.specs.Each.{each, any}
use Rattle.router_ports.specs.Ports.{fresh_router, with_mode, with_output, with_store}
use Rattle.router_ports.specs.Places.{without_front, with_behind}
use Rattle.router_ports.specs.Refusals.{bad_ports, bad_stores}
use Rattle.router_rounds.specs.Acts.{changed_to, count_moved, count_error, count_round}
use Rattle.router_rounds.specs.Addresses.{waits, reads, addresses, part1}
use Rattle.router_rounds.specs.Grants.{cyclic, candidates, first_that, granted, grants, part2}
use Rattle.router_rounds.specs.Moves.{frees, carries, moves, moves_one, spills, spills_one, sends, part3}
use Rattle.router_rounds.specs.Rounds.{begun, round, rounds}
use Rattle.router.specs.Calls.{puts, takes, took_one, told, runs}
use Rattle.router_packets.specs.Ledger.{opened, books_put, books_take, books_run, after}
use Rattle.router_packets.specs.Reading.{reading}
use Rattle.router_packets.specs.Incident.{IncidentReplayed}

pub incident_replayed : IncidentReplayed
unfolding
    fresh_store put_store put_places dropped standing fresh_table to_port by_row row_heading address_heading heading each any
    fresh_router with_mode with_output with_store without_front with_behind bad_ports bad_stores changed_to count_moved count_error
    count_round waits reads addresses part1 cyclic candidates first_that granted grants part2 frees carries moves moves_one
    spills spills_one sends part3 begun round rounds puts told runs takes took_one opened books_put books_take books_run after
    reading
incident_replayed = record { put_by_a = refl; put_by_b = refl; taken = refl; read = refl }
