-- A number that no fault has meets the tests of a received token that is none: those of every call, then CHAR.
-- Assumes nothing.
use Prim.Native.Nat.{ℕ, ◌≤◌}
use mathlib.Core.Path.{◌≡◌, refl, sym, ap, ◌∙◌}
use mathlib.Core.Bool.{Bool, true, false, ◌||◌, true≢false}
use mathlib.Core.List.{List, [], ◌∷◌}
use native.Mathlib.Omega.{arith}
use lib.ListN.{length}
use lib.Dec.{eqb, ltb}
use borrow.Author.Tests.{ne_eqb, eqb-true, eqb-false, ltb-false}
use Rattle.vocabulary.specs.Choice.{pick}
use Rattle.vocabulary.specs.Refusals.{CHAR, number}
use Rattle.vocabulary.specs.declared.Refusal.{Refusal}
use Rattle.vocabulary.specs.declared.Token.{Token}
use Rattle.vocabulary.proofs.RefusalLaws.{not_none}
use Rattle.words.specs.Arguments.{no_token}
use Rattle.store.specs.Ring.{bad_store}
use Rattle.store.proofs.OrLaws.{or_left, or_right}
use Rattle.time.specs.Time.{fresh_time}
use Rattle.time.specs.declared.Time.{Time}
use Rattle.link.specs.Ends.{End}
use Rattle.link.specs.Refusals.{bad_record, bad_rx_size, bad_tx_size, bad_receive}
use Rattle.link.specs.declared.FaultKind.{FaultKind}
use Rattle.link.specs.declared.FaultKind.TheVariants.{ParityFault, EscapeFault, DisconnectFault}
use Rattle.link.specs.Records.{Answer}
use Rattle.link.specs.Received.{fault_event}
use Rattle.link.specs.Recovery.{settles}
use Rattle.link.specs.Calls.{Outcome, accepted, answered, refused, refused_with, fault_outcome}
use Rattle.link.specs.Calls.{both, receiving, token_accepted, received, receipt_of, receive_refused, receive_outcome}
use Rattle.link.specs.LinkCalls.{as_answer, numbered_fault, NoFaultIsChar, answer_left, end_of, fault_left, fault_of, fault_refused}
use Rattle.link.specs.LinkCalls.{fault_number, no_fault, no_link}
use Rattle.link.specs.LinkWords.{is_link}
use Rattle.link.proofs.StayLaws.{link_stays}
use Rattle.link.proofs.RefusedLaws.{in_order}
use Rattle.link.proofs.CallLaws.{told}

pub fault_back : (k : FaultKind) → fault_of (fault_number k) ≡ k
fault_back ParityFault = refl
fault_back EscapeFault = refl
fault_back DisconnectFault = refl

pub fault_told : (kind : ℕ) → no_fault kind ≡ false → fault_number (fault_of kind) ≡ kind
fault_told kind known = by (eqb kind 5) (eqb kind 6) refl refl
  where
    by : (p e : Bool) → eqb kind 5 ≡ p → eqb kind 6 ≡ e → fault_number (pick p ParityFault (pick e EscapeFault DisconnectFault)) ≡ kind
    by true e p q = sym (eqb-true kind 5 p)
    by false true p q = sym (eqb-true kind 6 q)
    by false false p q =
        omega (
          arith,
          ltb-false kind 5 (or_left _ (ltb 7 kind) known),
          ltb-false 7 kind (or_right (ltb kind 5) _ known),
          eqb-false kind 5 p,
          eqb-false kind 6 q,
        )

receiving_none : (e : End) → receiving e fresh_time no_token ≡ pick (eqb (both e) 0) (number CHAR) (both e)
unfolding fresh_time
receiving_none e =
    sym
    (in_order true true (bad_record e.link) false (bad_rx_size (length e.rx) || bad_tx_size (length e.tx))
    (bad_receive (length e.rx) e.link || bad_store (length e.tx) e.link.tx) (number CHAR))

-- what a received token is refused with is the number that its tests give, 0 where it is not
either_refusal : (e : End) (time : Time) (t : Token) (n : ℕ) (test : Bool) → eqb n 0 ≡ test →
    (as_answer (pick test (token_accepted e time t) (record { answer = receive_refused e.link time n; rx = e.rx }))
    ).answer.refusal ≡ n
unfolding as_answer token_accepted received receipt_of receive_refused
either_refusal e time t n true p = sym (eqb-true n 0 p)
either_refusal e time t n false p = refl

refusal_of : (e : End) (time : Time) (t : Token) → (as_answer (receive_outcome e time t)).answer.refusal ≡ receiving e time t
unfolding receive_outcome
refusal_of e time t = either_refusal e time t (receiving e time t) (eqb (receiving e time t) 0) refl

pub no_fault_is_char : NoFaultIsChar
unfolding numbered_fault
no_fault_is_char e kind five six seven =
    rw (ne_eqb kind 5 five, ne_eqb kind 6 six, ne_eqb kind 7 seven) (refusal_of e fresh_time no_token ∙ receiving_none e)

-- the numbers of the three faults
pub named : (kind : ℕ) → no_fault kind ≡ false → (e : End) → numbered_fault e kind ≡ fault_outcome e (fault_of kind)
unfolding numbered_fault
named kind known e = by (eqb kind 5) refl (eqb kind 6) refl (eqb kind 7) refl
  where
    by : (five : Bool) → eqb kind 5 ≡ five → (six : Bool) → eqb kind 6 ≡ six → (seven : Bool) → eqb kind 7 ≡ seven →
        numbered_fault e kind ≡ fault_outcome e (fault_of kind)
    by true p six q seven r = rw p
    by false p true q seven r = rw (p, q)
    by false p false q true r = rw (p, q, r)
    by false p false q false r =
        let least : 5 ≤ kind = ltb-false kind 5 (or_left _ (ltb 7 kind) known) in
        let most : kind ≤ 7 = ltb-false 7 kind (or_right (ltb kind 5) _ known) in
        absurd (omega (arith, eqb-false kind 5 p, eqb-false kind 6 q, eqb-false kind 7 r))

refusal_told : (o : Outcome Answer) → (answer_left o).refusal ≡ o.answer.refusal
unfolding answer_left
refusal_told o = refl

-- what a fault is refused with
fault_refusal : (words rx tx : List ℕ) (kind : ℕ) →
    (fault_left words rx tx kind).refusal ≡ fault_refused words (length rx) (length tx) kind
unfolding fault_left fault_outcome end_of no_link answer_left accepted answered refused refused_with
fault_refusal words rx tx kind = by (is_link words) refl (no_fault kind) refl
  where
    e : End
    e = end_of words rx tx

    answers : (f : FaultKind) (n : ℕ) (test : Bool) → eqb n 0 ≡ test →
        (answer_left (pick test (accepted (settles (fault_event e.link f) e)) (refused e n))).refusal ≡ pick test 0 n
    answers f n true p = refl
    answers f n false p = refl

    by : (link : Bool) → is_link words ≡ link → (none : Bool) → no_fault kind ≡ none →
        (fault_left words rx tx kind).refusal ≡ fault_refused words (length rx) (length tx) kind
    by true p false q =
        rw (p, named kind q e, q) (answers (fault_of kind) (both e) (eqb (both e) 0) refl)
    by true p true q =
        let other : (k : ℕ) → no_fault k ≡ false → kind ≡ k → ⊥ = λ k known z. true≢false (sym q ∙ ap no_fault z ∙ known) in
        rw (p, q) (refusal_told (numbered_fault e kind)
        ∙ no_fault_is_char e kind (other 5 refl) (other 6 refl) (other 7 refl))
    by false p none q = rw p

pub fault_refused_as : (words rx tx : List ℕ) (kind : ℕ) (r : Refusal) →
    number r ≡ fault_refused words (length rx) (length tx) kind →
    record { refusal = number r; state = words; places = rx; out = 0 ∷ [] } ≡ fault_left words rx tx kind
fault_refused_as words rx tx kind r e =
    told (fault_left words rx tx kind) (e ∙ sym (fault_refusal words rx tx kind)) (not_none r) (link_stays.fault words rx tx kind)

pub fault_refused_lem : (words rx tx : List ℕ) (kind : ℕ) → (fault_refused words (length rx) (length tx) kind ≡ 0 → ⊥) →
    fault_left words rx tx kind
    ≡ record { refusal = fault_refused words (length rx) (length tx) kind; state = words; places = rx; out = 0 ∷ [] }
fault_refused_lem words rx tx kind some =
    sym (told (fault_left words rx tx kind) (sym (fault_refusal words rx tx kind)) some (link_stays.fault words rx tx kind))
