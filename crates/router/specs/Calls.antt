-- What each call on the router answers, and what the lent area and table hold afterwards: the refusal if there is one, else
-- what the rules give. A refused call leaves state, area and table as they were, and its other answers are zero.
-- Assumes nothing.
use Rattle.std.specs.Prelude.{ℕ, List, eqb}
use Rattle.vocabulary.specs.Choice.{pick}
use Rattle.router_table.specs.Rows.{row_at, with_row}
use Rattle.router_ports.specs.Ports.{input_store, output_store}
use Rattle.router_ports.specs.Places.{Machine, front_at, without_front, with_behind}
use Rattle.router_ports.specs.Records.{Router}
use Rattle.router_rounds.specs.Acts.{Tally}
use Rattle.router_rounds.specs.Rounds.{begun, rounds}
use Rattle.router_rounds.specs.Exact.{exact}
use Rattle.router.specs.Refusals.{put_refusal, take_refusal, run_refusal, row_refusal}
use Rattle.router.specs.Records.{RowRead}

-- an N-Char put to a port's input store

pub record Put : Type 0 where
  pub refusal : ℕ
  pub now : Machine

unfoldable pub puts : Machine → ℕ → ℕ → Put
puts x port n =
    pick (eqb (put_refusal x port n) 0)
    (record { refusal = 0; now = with_behind x (input_store port) n })
    (record { refusal = put_refusal x port n; now = x })

-- the front N-Char taken from a port's output store

pub record Took : Type 0 where
  pub refusal : ℕ
  pub now : Machine
  pub taken : ℕ

unfoldable pub took_one : Machine → ℕ → Took
took_one x port =
    record { refusal = 0; now = without_front x (output_store port); taken = front_at x (output_store port) }

unfoldable pub takes : Machine → ℕ → Took
takes x port =
    pick (eqb (take_refusal x port) 0)
    (took_one x port)
    (record { refusal = take_refusal x port; now = x; taken = 0 })

-- "says how many rounds it ran, that one counted, and how many N-Chars it moved; also how many address errors it met"

pub record Run : Type 0 where
  pub refusal : ℕ
  pub now : Machine
  pub rounds : ℕ
  pub moved : ℕ
  pub errors : ℕ

unfoldable pub told : Tally Machine → Run
told t = record { refusal = 0; now = t.now; rounds = t.rounds; moved = t.moved; errors = t.errors }

unfoldable pub runs : Machine → List ℕ → ℕ → Run
runs x table limit =
    pick (eqb (run_refusal x limit) 0)
    (told (rounds exact table limit (begun x)))
    (record { refusal = run_refusal x limit; now = x; rounds = 0; moved = 0; errors = 0 })

-- rows of the table

unfoldable pub writes_row : Router → List ℕ → ℕ → ℕ → List ℕ
writes_row s table row value = pick (eqb (row_refusal s row) 0) (with_row table row value) table

unfoldable pub reads_row : Router → List ℕ → ℕ → RowRead
reads_row s table row =
    pick (eqb (row_refusal s row) 0)
    (record { refusal = 0; value = row_at table row })
    (record { refusal = row_refusal s row; value = 0 })
