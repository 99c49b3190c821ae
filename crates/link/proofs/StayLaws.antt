-- A refused call hands the end back, and its words are those that it was loaded from.
-- Assumes nothing.
use Prim.Native.Nat.{ℕ}
use mathlib.Core.Path.{◌≡◌, refl, sym}
use mathlib.Core.Bool.{Bool, true, false, ◌&&◌}
use mathlib.Core.List.{List, [], ◌∷◌}
use lib.ListN.{length}
use lib.Dec.{eqb}
use Rattle.std.specs.Prelude.{Option}
use Rattle.vocabulary.specs.Choice.{pick}
use Rattle.vocabulary.specs.declared.Token.{Token}
use Rattle.words.specs.Words.{Stays}
use Rattle.words.specs.Arguments.{fitted, no_token, token_of}
use Rattle.words.proofs.StayLaws.{pick_stays}
use Rattle.time.specs.Time.{fresh_time}
use Rattle.time.specs.declared.Time.{Time}
use Rattle.link.specs.Ends.{End, Settled}
use Rattle.link.specs.Hosts.{puts, puts_places}
use Rattle.link.specs.Refusals.{put_refusal, take_refusal, offer_refusal}
use Rattle.link.specs.Calls.{refused_with, answered, accepted, refused, both, tick_outcome, fault_outcome}
use Rattle.link.specs.Calls.{control_outcome, reset_outcome, dispatch_of, dispatched, send_refused, send_outcome}
use Rattle.link.specs.Calls.{receipt_of, received, receive_refused, receiving, token_accepted, receive_outcome}
use Rattle.link.specs.Calls.{put_answer, put_places_after, take_accepted, take_refused, take_answer, offer_accepted}
use Rattle.link.specs.Calls.{offer_answer}
use Rattle.link.specs.Records.{Controls}
use Rattle.link.specs.declared.FaultKind.{FaultKind}
use Rattle.link.specs.declared.FaultKind.TheVariants.{ParityFault, EscapeFault, DisconnectFault}
use Rattle.link.specs.Records.{Link}
use Rattle.link.specs.LinkWords.{link_words, link_of, is_link, time_words, time_of, is_time}
use Rattle.link.specs.LinkCalls.{LinkLeft, no_link, end_of, answer_left, tick_left, reset_left, as_answer}
use Rattle.link.specs.LinkCalls.{numbered_fault, fault_left, control_left, dispatch_left, send_left}
use Rattle.link.specs.LinkCalls.{ReceiveLeft, receipt_left, no_receipt, receive_left, put_done, put_left}
use Rattle.link.specs.LinkCalls.{taken, take_left, offered, offer_left, StaysWith, ReceiptStays, LinkStays}
use Rattle.link.proofs.LinkLaws.{own_words, own_time}

own : (words : List ℕ) → is_link words ≡ true → link_words (link_of words) ≡ words
own words p = sym (own_words words p)

-- words that are none of an end stay, and so does all that is lent
either : (words places zeros : List ℕ) (test : Bool) (left : LinkLeft) → (test ≡ true → StaysWith words places zeros left) →
    StaysWith words places zeros (pick test left (no_link words places zeros))
unfolding no_link
either words places zeros true left f nonzero = f refl nonzero
either words places zeros false left f nonzero = (refl, refl, refl)

answer_stays : (words : List ℕ) (e : End) (s : Settled) (n : ℕ) (test : Bool) → link_words e.link ≡ words →
    StaysWith words e.rx (0 ∷ []) (answer_left (pick test (accepted s) (refused e n)))
unfolding answer_left accepted refused answered refused_with
answer_stays words e s n true same nonzero = absurd (nonzero refl)
answer_stays words e s n false same nonzero = (same, refl, refl)

-- an answer of a call on both stores: `s` is what its rule makes of the end
pub call_stays : (words rx tx : List ℕ) (s : Settled) →
    StaysWith words rx (0 ∷ [])
    (pick (is_link words)
    (answer_left (pick (eqb (both (end_of words rx tx)) 0) (accepted s) (refused (end_of words rx tx) (both (end_of words rx tx)))))
    (no_link words rx (0 ∷ [])))
unfolding end_of
call_stays words rx tx s =
    either words rx (0 ∷ []) (is_link words) _
    (λ p. answer_stays words (end_of words rx tx) s _ (eqb (both (end_of words rx tx)) 0) (own words p))

tick_stays : (words rx tx : List ℕ) → StaysWith words rx (0 ∷ []) (tick_left words rx tx)
unfolding tick_left tick_outcome
tick_stays words rx tx = call_stays words rx tx _

reset_stays : (words rx tx : List ℕ) → StaysWith words rx (0 ∷ []) (reset_left words rx tx)
unfolding reset_left reset_outcome
reset_stays words rx tx = call_stays words rx tx _

control_stays : (words rx tx : List ℕ) (c : Controls) → StaysWith words rx (0 ∷ []) (control_left words rx tx c)
unfolding control_left control_outcome
control_stays words rx tx c = call_stays words rx tx _

fault_kept : (words : List ℕ) (e : End) (f : FaultKind) → link_words e.link ≡ words →
    StaysWith words e.rx (0 ∷ []) (answer_left (fault_outcome e f))
unfolding fault_outcome
fault_kept words e f same = answer_stays words e _ _ (eqb (both e) 0) same

token_kept : (words : List ℕ) (e : End) (time : Time) (t : Token) (n : ℕ) (test : Bool) → link_words e.link ≡ words →
    StaysWith words e.rx (0 ∷ [])
    (answer_left
    (as_answer (pick test (token_accepted e time t) (record { answer = receive_refused e.link time n; rx = e.rx }))))
unfolding answer_left as_answer token_accepted received receipt_of receive_refused
token_kept words e time t n true same nonzero = absurd (nonzero refl)
token_kept words e time t n false same nonzero = (same, refl, refl)

none_kept : (words : List ℕ) (e : End) → link_words e.link ≡ words →
    StaysWith words e.rx (0 ∷ []) (answer_left (as_answer (receive_outcome e fresh_time no_token)))
unfolding receive_outcome
none_kept words e same = token_kept words e fresh_time no_token _ (eqb (receiving e fresh_time no_token) 0) same

numbered_kept : (words : List ℕ) (e : End) (kind : ℕ) → link_words e.link ≡ words →
    StaysWith words e.rx (0 ∷ []) (answer_left (numbered_fault e kind))
unfolding numbered_fault
numbered_kept words e kind same = by (eqb kind 5) (eqb kind 6) (eqb kind 7)
  where
    by : (five six seven : Bool) →
        StaysWith words e.rx (0 ∷ [])
        (answer_left
        (pick five (fault_outcome e ParityFault)
        (pick six (fault_outcome e EscapeFault)
        (pick seven (fault_outcome e DisconnectFault) (as_answer (receive_outcome e fresh_time no_token))))))
    by true six seven = fault_kept words e ParityFault same
    by false true seven = fault_kept words e EscapeFault same
    by false false true = fault_kept words e DisconnectFault same
    by false false false = none_kept words e same

fault_stays : (words rx tx : List ℕ) (kind : ℕ) → StaysWith words rx (0 ∷ []) (fault_left words rx tx kind)
unfolding fault_left end_of
fault_stays words rx tx kind =
    either words rx (0 ∷ []) (is_link words) _
    (λ p. numbered_kept words (end_of words rx tx) kind (own words p))

dispatch_stays : (words : List ℕ) (e : End) (sent : Option Token) (s : Settled) (n : ℕ) (test : Bool) → link_words e.link ≡ words →
    StaysWith words e.rx (0 ∷ 0 ∷ 0 ∷ [])
    (dispatch_left (pick test (dispatched sent s) (record { answer = send_refused e.link n; rx = e.rx })))
unfolding dispatch_left dispatched dispatch_of send_refused
dispatch_stays words e sent s n true same nonzero = absurd (nonzero refl)
dispatch_stays words e sent s n false same nonzero = (same, refl, refl)

send_stays : (words rx tx : List ℕ) → StaysWith words rx (0 ∷ 0 ∷ 0 ∷ []) (send_left words rx tx)
unfolding send_left send_outcome end_of
send_stays words rx tx =
    either words rx (0 ∷ 0 ∷ 0 ∷ []) (is_link words) _
    (λ p. dispatch_stays words (end_of words rx tx) _ _ _ (eqb (both (end_of words rx tx)) 0) (own words p))

receipt_stays : (words times : List ℕ) (e : End) (time : Time) (t : Token) (n : ℕ) (test : Bool) →
    link_words e.link ≡ words → time_words time ≡ times →
    ReceiptStays words e.rx times
    (receipt_left (pick test (token_accepted e time t) (record { answer = receive_refused e.link time n; rx = e.rx })))
unfolding receipt_left token_accepted received receipt_of receive_refused
receipt_stays words times e time t n true same clock nonzero = absurd (nonzero refl)
receipt_stays words times e time t n false same clock nonzero = (same, refl, clock, refl)

either_receipt : (words rx time : List ℕ) (link clock : Bool) (left : ReceiveLeft) →
    (link ≡ true → clock ≡ true → ReceiptStays words rx time left) →
    ReceiptStays words rx time (pick (link && clock) left (no_receipt words rx time))
unfolding no_receipt
either_receipt words rx time true true left f nonzero = f refl refl nonzero
either_receipt words rx time true false left f nonzero = (refl, refl, refl, refl)
either_receipt words rx time false clock left f nonzero = (refl, refl, refl, refl)

receive_stays : (words rx tx time : List ℕ) (kind value : ℕ) →
    ReceiptStays words rx time (receive_left words rx tx time kind value)
unfolding receive_left receive_outcome end_of
receive_stays words rx tx time kind value =
    either_receipt words rx time (is_link words) (is_time time) _
    (λ p q.
    receipt_stays words time (end_of words rx tx) (time_of time) (token_of kind value) _
    (eqb (receiving (end_of words rx tx) (time_of time) (token_of kind value)) 0)
    (own words p) (sym (own_time time q)))

put_kept : (words tx : List ℕ) (l : Link) (n : ℕ) (refusal : ℕ) (test : Bool) → link_words l ≡ words →
    StaysWith words tx (0 ∷ [])
    (put_done (pick test (answered (puts (length tx) l n)) (refused_with l refusal)) (pick test (puts_places tx l n) tx))
unfolding put_done answered refused_with
put_kept words tx l n refusal true same nonzero = absurd (nonzero refl)
put_kept words tx l n refusal false same nonzero = (same, refl, refl)

put_stays : (words tx : List ℕ) (n : ℕ) → StaysWith words tx (0 ∷ []) (put_left words tx n)
unfolding put_left put_answer put_places_after
put_stays words tx n =
    either words tx (0 ∷ []) (is_link words) _
    (λ p.
    put_kept words tx (link_of words) (fitted n) _
    (eqb (put_refusal (length tx) (link_of words) (fitted n)) 0) (own words p))

take_kept : (words rx : List ℕ) (l : Link) (n : ℕ) (test : Bool) → link_words l ≡ words →
    Stays words (0 ∷ 0 ∷ []) (taken (pick test (take_accepted rx l) (take_refused l n)))
unfolding taken take_accepted take_refused
take_kept words rx l n true same nonzero = absurd (nonzero refl)
take_kept words rx l n false same nonzero = (same, refl)

take_stays : (words rx : List ℕ) → Stays words (0 ∷ 0 ∷ []) (take_left words rx)
unfolding take_left take_answer
take_stays words rx =
    pick_stays words (0 ∷ 0 ∷ []) (is_link words) _ _
    (λ p. take_kept words rx (link_of words) _ (eqb (take_refusal (length rx) (link_of words)) 0) (own words p))
    (λ nonzero. (refl, refl))

offer_kept : (words : List ℕ) (l : Link) (code n : ℕ) (test : Bool) → link_words l ≡ words →
    Stays words (0 ∷ []) (offered (pick test (offer_accepted l code) (refused_with l n)))
unfolding offered offer_accepted refused_with
offer_kept words l code n true same nonzero = absurd (nonzero refl)
offer_kept words l code n false same nonzero = (same, refl)

offer_stays : (words : List ℕ) (code : ℕ) → Stays words (0 ∷ []) (offer_left words code)
unfolding offer_left offer_answer
offer_stays words code =
    pick_stays words (0 ∷ []) (is_link words) _ _
    (λ p. offer_kept words (link_of words) code _ (eqb (offer_refusal (link_of words)) 0) (own words p))
    (λ nonzero. (refl, refl))

pub link_stays : LinkStays
link_stays =
    record {
      tick = tick_stays;
      reset = reset_stays;
      fault = fault_stays;
      control = control_stays;
      send = send_stays;
      receive = receive_stays;
      put = put_stays;
      take = take_stays;
      offer = offer_stays;
    }
