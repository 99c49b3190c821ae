-- What a round sees of the ports and does to them, and what it counts. The three parts of a round are written over this
-- alone: in Model.antt every store is the plain list of its N-Chars, in Exact.antt a ring of the lent area.
-- Assumes nothing.
use Rattle.std.specs.Prelude.{ℕ, ◌+◌, Bool, true, false}
use Rattle.router_ports.specs.declared.Mode.{Mode}
use Rattle.router_ports.specs.declared.Output.{Output}

-- stores are named by number, as `input_store` and `output_store` of a port
pub record Acts (X : Type 0) : Type 0 where
  pub mode : X → ℕ → Mode
  pub output : X → ℕ → Output
  pub is_empty : X → ℕ → Bool
  pub is_full : X → ℕ → Bool
  pub front : X → ℕ → ℕ
  pub set_mode : X → ℕ → Mode → X
  pub set_output : X → ℕ → Output → X
  pub drop_front : X → ℕ → X
  pub append : X → ℕ → ℕ → X

-- the ports as they stand, the counts so far, and whether the present round has changed anything
pub record Tally (X : Type 0) : Type 0 where
  pub now : X
  pub rounds : ℕ
  pub moved : ℕ
  pub errors : ℕ
  pub changed : Bool

module _ {X : Type 0} where
  unfoldable pub changed_to : Tally X → X → Tally X
  changed_to t x =
      record { now = x; rounds = t.rounds; moved = t.moved; errors = t.errors; changed = true }

  unfoldable pub count_moved : Tally X → Tally X
  count_moved t =
      record { now = t.now; rounds = t.rounds; moved = t.moved + 1; errors = t.errors; changed = t.changed }

  unfoldable pub count_error : Tally X → Tally X
  count_error t =
      record { now = t.now; rounds = t.rounds; moved = t.moved; errors = t.errors + 1; changed = t.changed }

  -- a round begins: it is counted, and has changed nothing yet
  unfoldable pub count_round : Tally X → Tally X
  count_round t =
      record { now = t.now; rounds = t.rounds + 1; moved = t.moved; errors = t.errors; changed = false }
