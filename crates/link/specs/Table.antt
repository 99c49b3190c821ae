-- 01, The link end: "The next state for each state and kind of event stands once, as a table of constants." How it is
-- looked up.
-- Assumes nothing.
use Rattle.std.specs.Prelude.{◌≡◌, Bool, ℕ, zero, suc, ◌+◌, ◌<◌, List, [], ◌∷◌, get_or, eqb}
use Rattle.vocabulary.specs.Choice.{pick}
use Rattle.link.specs.Moves.{is_state, event_number, When, came, is_enabled, nulls_exchanged, link_disabled, timer_at_limit}
use Rattle.link.specs.Moves.{state_number, Move, row, Conditions, state_after}
use Rattle.link.specs.declared.LinkState.{LinkState}
use Rattle.link.specs.declared.LinkState.TheVariants.{ErrorReset, ErrorWait, Ready, Started, Connecting, Run}
use Rattle.link.specs.declared.Event.{Event}
use Rattle.link.specs.declared.moves.Condition.{Condition}
use Rattle.link.specs.declared.moves.Condition.TheVariants.{Enabled, Exchanged, Disabled, AtLimit}

-- the column of what a row may ask for
abbrev pub column_of : When → ℕ
column_of (came event) = event_number event
column_of is_enabled = 6
column_of nulls_exchanged = 7
column_of link_disabled = 8
column_of timer_at_limit = 9

-- what stands in a column: the row's move for it, or the state itself
abbrev pub in_column : List Move → ℕ → LinkState → LinkState
in_column [] column stay = stay
in_column (m ∷ ms) column stay = pick (eqb (column_of m.when) column) m.to (in_column ms column stay)

abbrev pub table_at : LinkState → ℕ → LinkState
table_at s column = in_column (row s) column s

-- the states in the order of their numbers
abbrev pub states : List LinkState
states = ErrorReset ∷ ErrorWait ∷ Ready ∷ Started ∷ Connecting ∷ Run ∷ []

abbrev pub state_of : ℕ → LinkState
state_of n = get_or states n Run

-- rows of numbers that say in each cell what the table says there
abbrev pub SaysMoves : List (List ℕ) → Type 0
SaysMoves rows =
    (state column : ℕ) → state < 6 → column < 10 →
    get_or (get_or rows state []) column 0 ≡ state_number (table_at (state_of state) column)

-- the columns behind those of events
abbrev pub condition_number : Condition → ℕ
condition_number Enabled = 6
condition_number Exchanged = 7
condition_number Disabled = 8
condition_number AtLimit = 9

-- whether one of the columns behind those of events holds
abbrev pub column_holds : Conditions → ℕ → Bool
column_holds c column =
    pick (eqb column 6) c.enabled (pick (eqb column 7) c.exchanged (pick (eqb column 8) c.disabled c.at_limit))

-- of `count` columns from `column` on, the first that holds and whose cell is not the state itself
unfoldable pub first_from : LinkState → Conditions → ℕ → ℕ → LinkState
first_from s c column zero = s
first_from s c column (suc count) =
    pick (is_state (table_at s column) s) (first_from s c (column + 1) count)
    (pick (column_holds c column) (table_at s column) (first_from s c (column + 1) count))

-- what came, then the others: one rule for all states
abbrev pub looked_up : LinkState → Event → Conditions → LinkState
looked_up s event c =
    pick (is_state (table_at s (event_number event)) s) (first_from s c 6 4) (table_at s (event_number event))

-- what it finds is "the first that fits"
abbrev pub FindsFirstThatFits : Type 0
FindsFirstThatFits = (s : LinkState) (event : Event) (c : Conditions) → looked_up s event c ≡ state_after s event c
