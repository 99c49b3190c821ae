-- What each call on the words of a link end leaves: what the end's own call leaves of the end that they load, saved; or
-- everything as it was, where they are no end.
-- Assumes nothing.
use Rattle.std.specs.Prelude.{ℕ, ◌≡◌, Bool, ◌||◌, ◌&&◌, List, [], ◌∷◌, length, eqb, ltb}
use Rattle.vocabulary.specs.Choice.{pick}
use Rattle.vocabulary.specs.Refusals.{STATE, CHAR, number}
use Rattle.vocabulary.specs.declared.Token.{Token}
use Rattle.words.specs.Words.{Left, Stays, truth_word, truth, narrow}
use Rattle.words.specs.Arguments.{fitted, no_token, token_of}
use Rattle.time.specs.Time.{fresh_time}
use Rattle.link.specs.Ends.{End}
use Rattle.link.specs.Refusals.{bad_record, both_refusal, receive_refusal, put_refusal, take_refusal, offer_refusal}
use Rattle.link.specs.Send.{sent_kind, sent_value}
use Rattle.link.specs.Calls.{Outcome, both, tick_outcome, fault_outcome, control_outcome, reset_outcome, send_outcome}
use Rattle.link.specs.Calls.{receive_outcome, put_answer, put_places_after, take_answer, offer_answer}
use Rattle.link.specs.Records.{Controls}
use Rattle.link.specs.declared.FaultKind.{FaultKind}
use Rattle.link.specs.declared.FaultKind.TheVariants.{ParityFault, EscapeFault, DisconnectFault}
use Rattle.link.specs.Records.{Answer, Dispatch, Receipt, Taken}
use Rattle.link.specs.LinkWords.{link_words, link_of, is_link, time_words, time_of, is_time}

-- What each call refuses: words that are no end's as STATE, and of an end what its own tests say; the record's come first.
abbrev pub record_refused : List ℕ → ℕ
record_refused words = pick (is_link words) (pick (bad_record (link_of words)) (number STATE) 0) (number STATE)

abbrev pub both_refused : List ℕ → ℕ → ℕ → ℕ
both_refused words rx tx = pick (is_link words) (both_refusal rx tx (link_of words)) (number STATE)

-- a fault by the number of its report: 5 parity, 6 escape, 7 disconnect; any other is CHAR, in its place in the order
abbrev pub no_fault : ℕ → Bool
no_fault kind = ltb kind 5 || ltb 7 kind

abbrev pub fault_of : ℕ → FaultKind
fault_of kind = pick (eqb kind 5) ParityFault (pick (eqb kind 6) EscapeFault DisconnectFault)

-- a fault has the number of its report
abbrev pub fault_number : FaultKind → ℕ
fault_number ParityFault = 5
fault_number EscapeFault = 6
fault_number DisconnectFault = 7

abbrev pub fault_refused : List ℕ → ℕ → ℕ → ℕ → ℕ
fault_refused words rx tx kind =
    pick (eqb (both_refused words rx tx) 0) (pick (no_fault kind) (number CHAR) 0) (both_refused words rx tx)

abbrev pub receive_refused : List ℕ → ℕ → ℕ → List ℕ → Token → ℕ
receive_refused words rx tx time t =
    pick (is_link words && is_time time) (receive_refusal rx tx (link_of words) (time_of time) t) (number STATE)

abbrev pub put_refused : List ℕ → ℕ → ℕ → ℕ
put_refused words tx n = pick (is_link words) (put_refusal tx (link_of words) n) (number STATE)

abbrev pub take_refused : List ℕ → ℕ → ℕ
take_refused words rx = pick (is_link words) (take_refusal rx (link_of words)) (number STATE)

abbrev pub offer_refused : List ℕ → ℕ
offer_refused words = pick (is_link words) (offer_refusal (link_of words)) (number STATE)

-- `places`: of the store that is lent to be changed
pub record LinkLeft : Type 0 where
  pub refusal : ℕ
  pub state : List ℕ
  pub places : List ℕ
  pub out : List ℕ

-- `zeros`: the other answers of a call that is refused
unfoldable pub no_link : List ℕ → List ℕ → List ℕ → LinkLeft
no_link words places zeros = record { refusal = number STATE; state = words; places = places; out = zeros }

unfoldable pub end_of : List ℕ → List ℕ → List ℕ → End
end_of words rx tx = record { link = link_of words; rx = rx; tx = tx }

unfoldable pub answer_left : Outcome Answer → LinkLeft
answer_left o =
    record {
      refusal = o.answer.refusal;
      state = link_words o.answer.link;
      places = o.rx;
      out = narrow o.answer.discarded ∷ [];
    }

unfoldable pub tick_left : List ℕ → List ℕ → List ℕ → LinkLeft
tick_left words rx tx = pick (is_link words) (answer_left (tick_outcome (end_of words rx tx))) (no_link words rx (0 ∷ []))

unfoldable pub reset_left : List ℕ → List ℕ → List ℕ → LinkLeft
reset_left words rx tx = pick (is_link words) (answer_left (reset_outcome (end_of words rx tx))) (no_link words rx (0 ∷ []))

-- A fault by the number of its report. A number that no fault has is refused as a received token that is none: CHAR, in its
-- place in the order.
unfoldable pub as_answer : Outcome Receipt → Outcome Answer
as_answer o =
    record {
      answer = record { refusal = o.answer.refusal; link = o.answer.link; discarded = o.answer.discarded };
      rx = o.rx;
    }

unfoldable pub numbered_fault : End → ℕ → Outcome Answer
numbered_fault e kind =
    pick (eqb kind 5) (fault_outcome e ParityFault)
    (pick (eqb kind 6) (fault_outcome e EscapeFault)
    (pick (eqb kind 7) (fault_outcome e DisconnectFault) (as_answer (receive_outcome e fresh_time no_token))))

-- so it is CHAR exactly where no test before it applies
abbrev pub NoFaultIsChar : Type 0
NoFaultIsChar =
    (e : End) (kind : ℕ) → (kind ≡ 5 → ⊥) → (kind ≡ 6 → ⊥) → (kind ≡ 7 → ⊥) →
    (numbered_fault e kind).answer.refusal ≡ pick (eqb (both e) 0) (number CHAR) (both e)

unfoldable pub fault_left : List ℕ → List ℕ → List ℕ → ℕ → LinkLeft
fault_left words rx tx kind =
    pick (is_link words) (answer_left (numbered_fault (end_of words rx tx) kind)) (no_link words rx (0 ∷ []))

abbrev pub controls_of : ℕ → ℕ → ℕ → Controls
controls_of disabled start auto = record { disabled = truth disabled; start = truth start; auto = truth auto }

unfoldable pub control_left : List ℕ → List ℕ → List ℕ → Controls → LinkLeft
control_left words rx tx c =
    pick (is_link words) (answer_left (control_outcome (end_of words rx tx) c)) (no_link words rx (0 ∷ []))

-- a send, with the number and the value of what goes out
unfoldable pub dispatch_left : Outcome Dispatch → LinkLeft
dispatch_left o =
    record {
      refusal = o.answer.refusal;
      state = link_words o.answer.link;
      places = o.rx;
      out = narrow o.answer.discarded ∷ sent_kind o.answer.sent ∷ sent_value o.answer.sent ∷ [];
    }

unfoldable pub send_left : List ℕ → List ℕ → List ℕ → LinkLeft
send_left words rx tx =
    pick (is_link words) (dispatch_left (send_outcome (end_of words rx tx))) (no_link words rx (0 ∷ 0 ∷ 0 ∷ []))

-- a received token: the time record's words are lent too, and tested with the end's
pub record ReceiveLeft : Type 0 where
  pub refusal : ℕ
  pub state : List ℕ
  pub rx : List ℕ
  pub time : List ℕ
  pub out : List ℕ

unfoldable pub receipt_left : Outcome Receipt → ReceiveLeft
receipt_left o =
    record {
      refusal = o.answer.refusal;
      state = link_words o.answer.link;
      rx = o.rx;
      time = time_words o.answer.time;
      out = narrow o.answer.discarded ∷ truth_word o.answer.tick ∷ [];
    }

unfoldable pub no_receipt : List ℕ → List ℕ → List ℕ → ReceiveLeft
no_receipt words rx time = record { refusal = number STATE; state = words; rx = rx; time = time; out = 0 ∷ 0 ∷ [] }

unfoldable pub receive_left : List ℕ → List ℕ → List ℕ → List ℕ → ℕ → ℕ → ReceiveLeft
receive_left words rx tx time kind value =
    pick (is_link words && is_time time)
    (receipt_left (receive_outcome (end_of words rx tx) (time_of time) (token_of kind value)))
    (no_receipt words rx time)

-- the host's three
unfoldable pub put_done : Answer → List ℕ → LinkLeft
put_done a places =
    record { refusal = a.refusal; state = link_words a.link; places = places; out = narrow a.discarded ∷ [] }

unfoldable pub put_left : List ℕ → List ℕ → ℕ → LinkLeft
put_left words tx n =
    pick (is_link words)
    (put_done (put_answer (length tx) (link_of words) (fitted n)) (put_places_after tx (link_of words) (fitted n)))
    (no_link words tx (0 ∷ []))

unfoldable pub taken : Taken → Left
taken a =
    record { refusal = a.refusal; state = link_words a.link; out = narrow a.discarded ∷ a.nchar ∷ [] }

unfoldable pub take_left : List ℕ → List ℕ → Left
take_left words rx =
    pick (is_link words) (taken (take_answer rx (link_of words)))
    (record { refusal = number STATE; state = words; out = 0 ∷ 0 ∷ [] })

unfoldable pub offered : Answer → Left
offered a = record { refusal = a.refusal; state = link_words a.link; out = narrow a.discarded ∷ [] }

unfoldable pub offer_left : List ℕ → ℕ → Left
offer_left words code =
    pick (is_link words) (offered (offer_answer (link_of words) code))
    (record { refusal = number STATE; state = words; out = 0 ∷ [] })

-- "State, stores and the time record stay; other answers are zero", whichever call is refused
abbrev pub StaysWith : List ℕ → List ℕ → List ℕ → LinkLeft → Type 0
StaysWith words places zeros left =
    (left.refusal ≡ 0 → ⊥) → (left.state ≡ words) × (left.places ≡ places) × (left.out ≡ zeros)

abbrev pub ReceiptStays : List ℕ → List ℕ → List ℕ → ReceiveLeft → Type 0
ReceiptStays words rx time left =
    (left.refusal ≡ 0 → ⊥) →
    (left.state ≡ words) × (left.rx ≡ rx) × (left.time ≡ time) × (left.out ≡ 0 ∷ 0 ∷ [])

pub record LinkStays : Type 0 where
  pub tick : (words rx tx : List ℕ) → StaysWith words rx (0 ∷ []) (tick_left words rx tx)
  pub reset : (words rx tx : List ℕ) → StaysWith words rx (0 ∷ []) (reset_left words rx tx)
  pub fault : (words rx tx : List ℕ) (kind : ℕ) → StaysWith words rx (0 ∷ []) (fault_left words rx tx kind)
  pub control : (words rx tx : List ℕ) (c : Controls) → StaysWith words rx (0 ∷ []) (control_left words rx tx c)
  pub send : (words rx tx : List ℕ) → StaysWith words rx (0 ∷ 0 ∷ 0 ∷ []) (send_left words rx tx)
  pub receive : (words rx tx time : List ℕ) (kind value : ℕ) →
      ReceiptStays words rx time (receive_left words rx tx time kind value)
  pub put : (words tx : List ℕ) (n : ℕ) → StaysWith words tx (0 ∷ []) (put_left words tx n)
  pub take : (words rx : List ℕ) → Stays words (0 ∷ 0 ∷ []) (take_left words rx)
  pub offer : (words : List ℕ) (code : ℕ) → Stays words (0 ∷ []) (offer_left words code)
