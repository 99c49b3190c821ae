-- 01, Numbers to hold it to: the starred cases of the link end and of time, ready to be gathered.
-- Assumes nothing.
use Rattle.std.specs.Prelude.{◌≡◌, true, false, List, [], ◌∷◌, ℕ, replicate, Some}
use Rattle.vocabulary.specs.declared.Token.{Token}
use Rattle.vocabulary.specs.declared.Token.TheVariants.{Null, Fct, NChar, TimeCode}
use Rattle.store.specs.Ring.{waiting}
use Rattle.time.specs.Time.{fresh_time}
use Rattle.time.specs.declared.Time.{Time}
use Rattle.link.specs.Ends.{End, fresh_link, with_stage, with_credit}
use Rattle.link.specs.Credit.{may_grant}
use Rattle.link.specs.Calls.{after_token}
use Rattle.link.specs.declared.LinkState.{LinkState}
use Rattle.link.specs.declared.LinkState.TheVariants.{ErrorReset, ErrorWait, Ready, Started, Connecting, Run}
use Rattle.link.specs.declared.Event.{Event}
use Rattle.link.specs.declared.Event.TheVariants.{CreditError}
use Rattle.link_laws.specs.Calls.{Call, tick, send, control, receive, Reply, reply, Turn, end_after, fresh_end}

-- a fresh end with the smallest stores
abbrev pub smallest : End
smallest = fresh_end (replicate 9 0) (replicate 1 0)

abbrev pub turn : Call → Turn
turn c = record { time = fresh_time; call = c }

abbrev pub ticks : ℕ → List Turn
ticks n = replicate n (turn tick)

abbrev pub link_start : Turn
link_start = turn (control (record { disabled = false; start = true; auto = false }))

abbrev pub state_after_turns : List Turn → LinkState
state_after_turns ts = (end_after smallest ts).link.stage.state

-- that end in a state, with NULLs exchanged, and with this credit held and given out
abbrev pub end_in : LinkState → ℕ → ℕ → End
end_in s held given =
    record {
      link =
          with_credit (with_stage fresh_link (record { state = s; timer = 0; gotnull = true; nullsent = true }))
          (record { held = record { 0 = held }; given = record { 0 = given } });
      rx = replicate 9 0;
      tx = replicate 1 0;
    }

abbrev pub hears : End → Token → Reply
hears e t = reply e fresh_time (receive t)

-- what the table sees of it
abbrev pub event_on : End → Token → Event
event_on e t = (after_token e fresh_time t).event

abbrev pub receive_waits : End → List ℕ
receive_waits e = waiting e.rx e.link.rx

abbrev pub sends : End → Reply
sends e = reply e fresh_time send

abbrev pub count63 : Time
count63 = record { count = 63; ticked = false }

pub record LinkCases : Type 0 where
  -- "Tick 63: ErrorReset; 64: ErrorWait; 192: Ready; with LinkStart, 193: Started."
  pub tick_63 : state_after_turns (ticks 63) ≡ ErrorReset
  pub tick_64 : state_after_turns (ticks 64) ≡ ErrorWait
  pub tick_192 : state_after_turns (ticks 192) ≡ Ready
  pub tick_193 : state_after_turns (link_start ∷ ticks 193) ≡ Started
  -- "Credit held 48 and FCT: 56. Held 49: credit error."
  pub held_48 : (hears (end_in Run 48 0) Fct).end.link.credit.held.0 ≡ 56
  pub held_49 : event_on (end_in Run 49 0) Fct ≡ CreditError
  pub held_49_ends : (hears (end_in Run 49 0) Fct).end.link.stage.state ≡ ErrorReset
  -- "Given out 48, free 57: FCT may go; free 56: not. Given out 49: never."
  pub free_57 : may_grant 48 57 ≡ true
  pub free_56 : may_grant 48 56 ≡ false
  pub given_49 : (free : ℕ) → may_grant 49 free ≡ false
  -- "Given out 1, N-Char: stored. Given out 0: credit error."
  pub given_1 : receive_waits (hears (end_in Run 0 1) (NChar 65)).end ≡ 65 ∷ []
  pub given_0 : event_on (end_in Run 0 0) (NChar 65) ≡ CreditError
  pub given_0_ends : (hears (end_in Run 0 0) (NChar 65)).end.link.stage.state ≡ ErrorReset
  pub given_0_stores_none : receive_waits (hears (end_in Run 0 0) (NChar 65)).end ≡ []
  -- "Connecting, empty receive store of 9, given out 0: first send FCT, second NULL."
  pub first_send : (sends (end_in Connecting 0 0)).sent ≡ Some Fct
  pub second_send : (sends (sends (end_in Connecting 0 0)).end).sent ≡ Some Null
  -- "Count 63, Time-Code 0: tick. Count 63, Time-Code 1: dropped."
  pub time_code_0 : (reply (end_in Run 0 0) count63 (receive (TimeCode 0))).tick_out ≡ true
  pub time_code_0_counts : (reply (end_in Run 0 0) count63 (receive (TimeCode 0))).time.count ≡ 0
  pub time_code_1 : (reply (end_in Run 0 0) count63 (receive (TimeCode 1))).tick_out ≡ false
  pub time_code_1_stays : (reply (end_in Run 0 0) count63 (receive (TimeCode 1))).time.count ≡ 63
