-- A call on a link end with its arguments, and what it answers and leaves, by the calls as promised. The rest of this
-- crate, and whoever joins ends, speaks of calls in this one shape.
-- Assumes nothing.
use Rattle.std.specs.Prelude.{ℕ, Bool, true, false, List, [], ◌∷◌, length, eqb, Option, None}
use Rattle.vocabulary.specs.Choice.{pick}
use Rattle.vocabulary.specs.declared.Token.{Token}
use Rattle.time.specs.declared.Time.{Time}
use Rattle.link.specs.Ends.{End, fresh_link}
use Rattle.link.specs.Calls.{Outcome, tick_outcome, fault_outcome, control_outcome, reset_outcome, send_outcome}
use Rattle.link.specs.Calls.{receive_outcome, put_answer, put_places_after, take_answer, offer_answer}
use Rattle.link.specs.declared.FaultKind.{FaultKind}
use Rattle.link.specs.Records.{Controls}
use Rattle.link.specs.Records.{Answer, Receipt, Dispatch, Taken}

pub data Call : Type 0 where
  tick send take reset : Call
  fault : FaultKind → Call
  control : Controls → Call
  receive : Token → Call
  put offer : ℕ → Call

-- the token that a call is made with
abbrev pub token_in : Call → List Token
token_in tick = []
token_in send = []
token_in take = []
token_in reset = []
token_in (fault f) = []
token_in (control c) = []
token_in (receive t) = t ∷ []
token_in (put n) = []
token_in (offer v) = []

abbrev pub is_reset : Call → Bool
is_reset tick = false
is_reset send = false
is_reset take = false
is_reset reset = true
is_reset (fault f) = false
is_reset (control c) = false
is_reset (receive t) = false
is_reset (put n) = false
is_reset (offer v) = false

-- What a call answers, and the end and the time record when it returns. `puts` is what a put accepted from the host,
-- `sent` what a send gave out, `takes` what a take gave the host, `tick_out` a received token's.
pub record Reply : Type 0 where
  pub refusal : ℕ
  pub end : End
  pub time : Time
  pub discarded : ℕ
  pub puts : List ℕ
  pub sent : Option Token
  pub takes : List ℕ
  pub tick_out : Bool

-- what a call did, which is nothing where it was refused
abbrev pub if_accepted : {A : Type 0} → ℕ → List A → List A
if_accepted refusal xs = pick (eqb refusal 0) xs []

-- of a plain answer to a call that would put these, with what the places of both stores then hold
unfoldable pub replied : List ℕ → Answer → List ℕ → List ℕ → Time → Reply
replied ns a rx tx time =
    record {
      refusal = a.refusal;
      end = record { link = a.link; rx = rx; tx = tx };
      time = time;
      discarded = a.discarded;
      puts = if_accepted a.refusal ns;
      sent = None;
      takes = [];
      tick_out = false;
    }

unfoldable pub replied_to_send : Outcome Dispatch → List ℕ → Time → Reply
replied_to_send o tx time =
    record {
      refusal = o.answer.refusal;
      end = record { link = o.answer.link; rx = o.rx; tx = tx };
      time = time;
      discarded = o.answer.discarded;
      puts = [];
      sent = o.answer.sent;
      takes = [];
      tick_out = false;
    }

unfoldable pub replied_to_token : Outcome Receipt → List ℕ → Reply
replied_to_token o tx =
    record {
      refusal = o.answer.refusal;
      end = record { link = o.answer.link; rx = o.rx; tx = tx };
      time = o.answer.time;
      discarded = o.answer.discarded;
      puts = [];
      sent = None;
      takes = [];
      tick_out = o.answer.tick;
    }

unfoldable pub replied_to_take : Taken → List ℕ → List ℕ → Time → Reply
replied_to_take a rx tx time =
    record {
      refusal = a.refusal;
      end = record { link = a.link; rx = rx; tx = tx };
      time = time;
      discarded = a.discarded;
      puts = [];
      sent = None;
      takes = if_accepted a.refusal (a.nchar ∷ []);
      tick_out = false;
    }

abbrev pub settled_reply : Outcome Answer → End → Time → Reply
settled_reply o e time = replied [] o.answer o.rx e.tx time

abbrev pub reply : End → Time → Call → Reply
reply e time tick = settled_reply (tick_outcome e) e time
reply e time (fault f) = settled_reply (fault_outcome e f) e time
reply e time (control c) = settled_reply (control_outcome e c) e time
reply e time reset = settled_reply (reset_outcome e) e time
reply e time send = replied_to_send (send_outcome e) e.tx time
reply e time (receive t) = replied_to_token (receive_outcome e time t) e.tx
reply e time (put n) =
    replied (n ∷ []) (put_answer (length e.tx) e.link n) e.rx (put_places_after e.tx e.link n) time
reply e time take = replied_to_take (take_answer e.rx e.link) e.rx e.tx time
reply e time (offer v) = replied [] (offer_answer e.link v) e.rx e.tx time

-- "The time counter is one small record, lent to every link and changed there": a call comes with the record as it then
-- stands, which other ends may have changed since.
pub record Turn : Type 0 where
  pub time : Time
  pub call : Call

abbrev pub turned : End → Turn → Reply
turned e t = reply e t.time t.call

-- the end after these calls
unfoldable pub end_after : End → List Turn → End
end_after e [] = e
end_after e (t ∷ ts) = end_after (turned e t).end ts

-- a fresh end with these places, whatever they hold
unfoldable pub fresh_end : List ℕ → List ℕ → End
fresh_end rx tx = record { link = fresh_link; rx = rx; tx = tx }
