-- 01, The link end: the table of moves, row by row, and what its conditions mean.
-- Assumes nothing.
use Rattle.std.specs.Prelude.{ℕ, Bool, true, false, not, ◌||◌, ◌&&◌, List, [], ◌∷◌, ◌++◌, eqb, leb}
use Rattle.vocabulary.specs.Choice.{pick}
use Rattle.link.specs.Ends.{with_stage}
use Rattle.link.specs.declared.LinkState.{LinkState}
use Rattle.link.specs.declared.LinkState.TheVariants.{ErrorReset, ErrorWait, Ready, Started, Connecting, Run}
use Rattle.link.specs.declared.Event.{Event}
use Rattle.link.specs.declared.Event.TheVariants.{Quiet, Fault, GotFct, GotNChar, GotTimeCode, CreditError}
use Rattle.link.specs.Records.{Controls, Link}

-- "Six states: ErrorReset (fresh), ErrorWait, Ready, Started, Connecting, Run", by number.
abbrev pub state_number : LinkState → ℕ
state_number ErrorReset = 0
state_number ErrorWait = 1
state_number Ready = 2
state_number Started = 3
state_number Connecting = 4
state_number Run = 5

abbrev pub is_state : LinkState → LinkState → Bool
is_state s s' = eqb (state_number s) (state_number s')

-- The columns of the constant table: what an event was, then what a state waits for.
abbrev pub event_number : Event → ℕ
event_number Quiet = 0
event_number Fault = 1
event_number GotFct = 2
event_number GotNChar = 3
event_number GotTimeCode = 4
event_number CreditError = 5

-- what a row of the table asks for
pub data When : Type 0 where
  came : Event → When
  is_enabled nulls_exchanged link_disabled timer_at_limit : When

-- a move of a row: when, and where to
pub record Move : Type 0 where
  pub when : When
  pub to : LinkState

abbrev pub on : When → LinkState → Move
on w s = record { when = w; to = s }

-- "fault, FCT, N-Char, Time-Code: ErrorReset"; in later rows "the same four: ErrorReset"
abbrev pub the_four : List Move
the_four =
    on (came Fault) ErrorReset ∷ on (came GotFct) ErrorReset ∷ on (came GotNChar) ErrorReset ∷ on (came GotTimeCode) ErrorReset ∷ []

-- the table
abbrev pub row : LinkState → List Move
row ErrorReset = on timer_at_limit ErrorWait ∷ []
row ErrorWait = the_four ++ on timer_at_limit Ready ∷ []
row Ready = the_four ++ on is_enabled Started ∷ []
row Started = the_four ++ on nulls_exchanged Connecting ∷ on timer_at_limit ErrorReset ∷ []
row Connecting =
    on (came Fault) ErrorReset ∷ on (came GotNChar) ErrorReset ∷ on (came GotTimeCode) ErrorReset
    ∷ on (came GotFct) Run ∷ on timer_at_limit ErrorReset ∷ []
row Run = on (came Fault) ErrorReset ∷ on (came CreditError) ErrorReset ∷ on link_disabled ErrorReset ∷ []

-- the timer's limits in the table; "not 0 in Ready, Run" is refused, so there it never comes to 1
abbrev pub limit_of : LinkState → ℕ
limit_of ErrorReset = 64
limit_of ErrorWait = 128
limit_of Ready = 1
limit_of Started = 128
limit_of Connecting = 128
limit_of Run = 1

-- what the conditions of a row are, of a link after an event's effect
pub record Conditions : Type 0 where
  pub at_limit : Bool
  pub enabled : Bool
  pub exchanged : Bool
  pub disabled : Bool

-- "Enabled means: not LinkDisabled, and either LinkStart or AutoStart with gotNULL."
abbrev pub enabled_by : Controls → Bool → Bool
enabled_by c got_null = not c.disabled && (c.start || c.auto && got_null)

abbrev pub conditions : Link → Conditions
conditions l =
    record {
      at_limit = leb (limit_of l.stage.state) l.stage.timer;
      enabled = enabled_by l.controls l.stage.gotnull;
      exchanged = l.stage.gotnull && l.stage.nullsent;
      disabled = l.controls.disabled;
    }

abbrev pub holds : Event → Conditions → When → Bool
holds event c (came kind) = eqb (event_number event) (event_number kind)
holds event c is_enabled = c.enabled
holds event c nulls_exchanged = c.exchanged
holds event c link_disabled = c.disabled
holds event c timer_at_limit = c.at_limit

-- "at most one move is made, the first that fits"
abbrev pub first_that_fits : Event → Conditions → List Move → LinkState → LinkState
first_that_fits event c [] stay = stay
first_that_fits event c (m ∷ ms) stay = pick (holds event c m.when) m.to (first_that_fits event c ms stay)

-- the state after an event, of a link in state s
abbrev pub state_after : LinkState → Event → Conditions → LinkState
state_after s event c = first_that_fits event c (row s) s

abbrev pub next_state : Event → Link → LinkState
next_state event l = state_after l.stage.state event (conditions l)

-- "A timer counts ticks in ErrorReset, ErrorWait, Started and Connecting"
abbrev pub counts_ticks : LinkState → Bool
counts_ticks ErrorReset = true
counts_ticks ErrorWait = true
counts_ticks Ready = false
counts_ticks Started = true
counts_ticks Connecting = true
counts_ticks Run = false

-- "and is 0 after each move"
abbrev pub entered : Link → LinkState → Link
entered l s =
    with_stage l (record { state = s; timer = 0; gotnull = l.stage.gotnull; nullsent = l.stage.nullsent })
