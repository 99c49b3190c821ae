-- 01, The link end: what a received token, a fault or a tick does before the move, and which event the table then sees.
-- Assumes nothing.
use Rattle.std.specs.Prelude.{ℕ, ◌+◌, ◌-◌, Bool, true, false, not, ◌||◌, ◌&&◌, List}
use Rattle.vocabulary.specs.Choice.{pick}
use Rattle.vocabulary.specs.NChars.{is_end}
use Rattle.vocabulary.specs.declared.Token.{Token}
use Rattle.vocabulary.specs.declared.Token.TheVariants.{Null, Fct, NChar, TimeCode}
use Rattle.store.specs.Changes.{put_store, put_places}
use Rattle.time.specs.Time.{time_after}
use Rattle.time.specs.declared.Time.{Time}
use Rattle.link.specs.Ends.{with_stage, with_marks, with_rx, mark_stored}
use Rattle.link.specs.Moves.{is_state, counts_ticks}
use Rattle.link.specs.Credit.{passes56, with_held, with_given, none_given}
use Rattle.link.specs.declared.LinkState.TheVariants.{ErrorReset, Connecting, Run}
use Rattle.link.specs.declared.Event.{Event}
use Rattle.link.specs.declared.Event.TheVariants.{Quiet, Fault, GotFct, GotNChar, GotTimeCode, CreditError}
use Rattle.link.specs.declared.FaultKind.{FaultKind}
use Rattle.link.specs.declared.FaultKind.TheVariants.{ParityFault, EscapeFault, DisconnectFault}
use Rattle.link.specs.Records.{Link, Effect}

abbrev pub effect : Link → Event → Time → Bool → Effect
effect l event time tick = record { link = l; event = event; time = time; tick = tick }

-- "NULL sets gotNULL."
abbrev pub got_null : Link → Link
got_null l =
    with_stage l
    (record { state = l.stage.state; timer = l.stage.timer; gotnull = true; nullsent = l.stage.nullsent })

-- "An FCT in Connecting or Run adds 8 to credit held; past 56 it is a credit error."
unfoldable pub fct_effect : Link → Time → Effect
fct_effect l time =
    pick (is_state l.stage.state Connecting || is_state l.stage.state Run)
    (pick (passes56 l.credit.held.0) (effect l CreditError time false)
    (effect (with_held l (l.credit.held.0 + 8)) GotFct time false))
    (effect l GotFct time false)

-- one N-Char stored, and one given out fewer
abbrev pub stored_link : ℕ → Link → ℕ → Link
stored_link size l n =
    with_marks (with_rx (with_given l (l.credit.given.0 - 1)) (put_store size l.rx n)) (mark_stored l.marks (not (is_end n)))

-- "a received N-Char in Run takes 1 and is stored, or at 0 is a credit error and is not stored"
abbrev pub stores_n_char : Link → Bool
stores_n_char l = is_state l.stage.state Run && not (none_given l.credit.given.0)

unfoldable pub n_char_effect : ℕ → Link → Time → ℕ → Effect
n_char_effect size l time n =
    pick (is_state l.stage.state Run)
    (pick (none_given l.credit.given.0) (effect l CreditError time false)
    (effect (stored_link size l n) GotNChar time false))
    (effect l GotNChar time false)

-- 01, Time: "A Time-Code in Run" goes to the time counter
unfoldable pub time_code_effect : Link → Time → ℕ → Effect
time_code_effect l time v =
    pick (is_state l.stage.state Run) (effect l GotTimeCode (time_after time v) (time_after time v).ticked)
    (effect l GotTimeCode time false)

-- "Ignored: in ErrorReset, everything received; before gotNULL, all tokens but NULL, and parity and escape errors."
abbrev pub ignores_all : Link → Bool
ignores_all l = is_state l.stage.state ErrorReset

abbrev pub ignores_token : Link → Token → Bool
ignores_token l Null = ignores_all l
ignores_token l Fct = ignores_all l || not l.stage.gotnull
ignores_token l (NChar n) = ignores_all l || not l.stage.gotnull
ignores_token l (TimeCode v) = ignores_all l || not l.stage.gotnull

abbrev pub heard_effect : ℕ → Link → Time → Token → Effect
heard_effect size l time Null = effect (got_null l) Quiet time false
heard_effect size l time Fct = fct_effect l time
heard_effect size l time (NChar n) = n_char_effect size l time n
heard_effect size l time (TimeCode v) = time_code_effect l time v

unfoldable pub token_effect : ℕ → Link → Time → Token → Effect
token_effect size l time t = pick (ignores_token l t) (effect l Quiet time false) (heard_effect size l time t)

-- the places of the receive store: only an N-Char that is stored changes them
abbrev pub heard_places : List ℕ → Link → Token → List ℕ
heard_places rx l Null = rx
heard_places rx l Fct = rx
heard_places rx l (NChar n) = pick (stores_n_char l) (put_places rx l.rx n) rx
heard_places rx l (TimeCode v) = rx

unfoldable pub token_places : List ℕ → Link → Token → List ℕ
token_places rx l t = pick (ignores_token l t) rx (heard_places rx l t)

-- "A disconnect always counts outside ErrorReset."
abbrev pub ignores_fault : Link → FaultKind → Bool
ignores_fault l ParityFault = ignores_all l || not l.stage.gotnull
ignores_fault l EscapeFault = ignores_all l || not l.stage.gotnull
ignores_fault l DisconnectFault = ignores_all l

abbrev pub fault_event : Link → FaultKind → Event
fault_event l f = pick (ignores_fault l f) Quiet Fault

-- a tick counts before the table is looked at
unfoldable pub counted : Link → Link
counted l =
    pick (counts_ticks l.stage.state)
    (with_stage l
    (record {
      state = l.stage.state;
      timer = l.stage.timer + 1;
      gotnull = l.stage.gotnull;
      nullsent = l.stage.nullsent;
    }))
    l
