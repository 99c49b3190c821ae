-- What each call on a link end answers and what the lent places hold afterwards: the refusal if there is one, else the event's
-- effect, else the one move that fits. A refused call hands back the record that it was given and leaves what it was lent.
-- Assumes nothing.
use Rattle.std.specs.Prelude.{ℕ, false, List, length, eqb, Option, None}
use Rattle.vocabulary.specs.Choice.{pick}
use Rattle.vocabulary.specs.declared.Token.{Token}
use Rattle.time.specs.declared.Time.{Time}
use Rattle.link.specs.Ends.{End, Settled, with_controls}
use Rattle.link.specs.Received.{counted, token_effect, token_places, fault_event}
use Rattle.link.specs.Send.{sending}
use Rattle.link.specs.Recovery.{settles}
use Rattle.link.specs.Reset.{resets}
use Rattle.link.specs.Hosts.{puts, puts_places, takes, taken_n_char, offers}
use Rattle.link.specs.Refusals.{both_refusal, receive_refusal, put_refusal, take_refusal, offer_refusal}
use Rattle.link.specs.declared.Event.TheVariants.{Quiet}
use Rattle.link.specs.declared.FaultKind.{FaultKind}
use Rattle.link.specs.Records.{Controls, Sending, Link, Moved, Effect, Answer, Receipt}
use Rattle.link.specs.Records.{Dispatch, Taken}

-- an answer, with what the places of the receive store hold when the call returns
pub record Outcome (A : Type 0) : Type 0 where
  pub answer : A
  pub rx : List ℕ

unfoldable pub refused_with : Link → ℕ → Answer
refused_with l number = record { refusal = number; link = l; discarded = 0 }

unfoldable pub answered : Moved → Answer
answered m = record { refusal = 0; link = m.link; discarded = m.discarded }

unfoldable pub accepted : Settled → Outcome Answer
accepted s = record { answer = answered s.moved; rx = s.rx }

unfoldable pub refused : End → ℕ → Outcome Answer
refused e number = record { answer = refused_with e.link number; rx = e.rx }

abbrev pub both : End → ℕ
both e = both_refusal (length e.rx) (length e.tx) e.link

abbrev pub with_link : End → Link → End
with_link e l = record { link = l; rx = e.rx; tx = e.tx }

-- a tick: the timer counts, then the table is looked at
unfoldable pub tick_outcome : End → Outcome Answer
tick_outcome e = pick (eqb (both e) 0) (accepted (settles Quiet (with_link e (counted e.link)))) (refused e (both e))

unfoldable pub fault_outcome : End → FaultKind → Outcome Answer
fault_outcome e f = pick (eqb (both e) 0) (accepted (settles (fault_event e.link f) e)) (refused e (both e))

unfoldable pub control_outcome : End → Controls → Outcome Answer
control_outcome e c =
    pick (eqb (both e) 0) (accepted (settles Quiet (with_link e (with_controls e.link c)))) (refused e (both e))

unfoldable pub reset_outcome : End → Outcome Answer
reset_outcome e = pick (eqb (both e) 0) (accepted (resets e.rx e.link)) (refused e (both e))

-- a send: the token of the state before, what is booked for it, then the table
unfoldable pub dispatch_of : Option Token → Moved → Dispatch
dispatch_of t m = record { refusal = 0; link = m.link; discarded = m.discarded; sent = t }

unfoldable pub dispatched : Option Token → Settled → Outcome Dispatch
dispatched t s = record { answer = dispatch_of t s.moved; rx = s.rx }

unfoldable pub send_refused : Link → ℕ → Dispatch
send_refused l number = record { refusal = number; link = l; discarded = 0; sent = None }

abbrev pub sent : End → Sending
sent e = sending (length e.rx) e.tx e.link

unfoldable pub send_outcome : End → Outcome Dispatch
send_outcome e =
    pick (eqb (both e) 0) (dispatched (sent e).sent (settles Quiet (with_link e (sent e).link)))
    (record { answer = send_refused e.link (both e); rx = e.rx })

-- a received token: its effect, then the table
unfoldable pub receipt_of : Effect → Moved → Receipt
receipt_of f m = record { refusal = 0; link = m.link; discarded = m.discarded; time = f.time; tick = f.tick }

unfoldable pub received : Effect → Settled → Outcome Receipt
received f s = record { answer = receipt_of f s.moved; rx = s.rx }

unfoldable pub receive_refused : Link → Time → ℕ → Receipt
receive_refused l time number = record { refusal = number; link = l; discarded = 0; time = time; tick = false }

abbrev pub after_token : End → Time → Token → Effect
after_token e time t = token_effect (length e.rx) e.link time t

abbrev pub receiving : End → Time → Token → ℕ
receiving e time t = receive_refusal (length e.rx) (length e.tx) e.link time t

unfoldable pub token_accepted : End → Time → Token → Outcome Receipt
token_accepted e time t =
    received (after_token e time t)
    (settles (after_token e time t).event
    (record { link = (after_token e time t).link; rx = token_places e.rx e.link t; tx = e.tx }))

unfoldable pub receive_outcome : End → Time → Token → Outcome Receipt
receive_outcome e time t =
    pick (eqb (receiving e time t) 0) (token_accepted e time t)
    (record { answer = receive_refused e.link time (receiving e time t); rx = e.rx })

-- put: the places of the transmit store are lent to be changed, and no others
unfoldable pub put_answer : ℕ → Link → ℕ → Answer
put_answer size l n =
    pick (eqb (put_refusal size l n) 0) (answered (puts size l n)) (refused_with l (put_refusal size l n))

unfoldable pub put_places_after : List ℕ → Link → ℕ → List ℕ
put_places_after tx l n = pick (eqb (put_refusal (length tx) l n) 0) (puts_places tx l n) tx

-- take: nothing that is lent changes
unfoldable pub take_accepted : List ℕ → Link → Taken
take_accepted rx l = record { refusal = 0; link = takes rx l (taken_n_char rx l); discarded = 0; nchar = taken_n_char rx l }

unfoldable pub take_refused : Link → ℕ → Taken
take_refused l number = record { refusal = number; link = l; discarded = 0; nchar = 0 }

unfoldable pub take_answer : List ℕ → Link → Taken
take_answer rx l =
    pick (eqb (take_refusal (length rx) l) 0) (take_accepted rx l) (take_refused l (take_refusal (length rx) l))

unfoldable pub offer_accepted : Link → ℕ → Answer
offer_accepted l v = record { refusal = 0; link = offers l v; discarded = 0 }

unfoldable pub offer_answer : Link → ℕ → Answer
offer_answer l v = pick (eqb (offer_refusal l) 0) (offer_accepted l v) (refused_with l (offer_refusal l))
