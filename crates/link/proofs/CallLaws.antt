-- What each call leaves: where it is accepted, the words and places of what its rule makes of the end; where it is refused, its
-- number, and the rest as it was.
-- Assumes nothing.
use Prim.Native.Nat.{ℕ}
use mathlib.Core.Path.{◌≡◌, refl, sym, ◌∙◌}
use mathlib.Core.Bool.{Bool, true, false, ◌&&◌}
use mathlib.Core.List.{List, [], ◌∷◌}
use lib.ListN.{length}
use lib.Dec.{eqb}
use borrow.Author.Tests.{eq-eqb, eqb-true}
use Rattle.vocabulary.specs.Choice.{pick}
use Rattle.vocabulary.specs.Refusals.{STATE, number}
use Rattle.vocabulary.specs.declared.Refusal.{Refusal}
use Rattle.vocabulary.specs.declared.Token.{Token}
use Rattle.vocabulary.proofs.RefusalLaws.{not_none}
use Rattle.words.specs.Words.{Left, Stays, narrow, truth_word}
use Rattle.words.specs.Arguments.{fitted, token_of}
use Rattle.link.specs.Ends.{Settled}
use Rattle.link.specs.declared.Event.TheVariants.{Quiet}
use Rattle.link.specs.Calls as calls
use Rattle.link.specs.Calls.{accepted, refused, both, answered, refused_with, dispatched, dispatch_of, send_refused}
use Rattle.link.specs.Calls.{send_outcome, receive_outcome, token_accepted, received, receipt_of, receiving}
use Rattle.link.specs.Calls.{put_answer, put_places_after, take_accepted, take_answer, offer_accepted, offer_answer}
use Rattle.link.specs.Received.{token_effect, token_places}
use Rattle.link.specs.Recovery.{settles}
use Rattle.link.specs.Send.{sent_kind, sent_value, sending}
use Rattle.link.specs.Hosts.{puts, puts_places, put_discarded, put_stored, takes, taken_n_char, offers}
use Rattle.link.specs.Refusals.{both_refusal, receive_refusal, put_refusal, take_refusal, offer_refusal}
use Rattle.link.specs.Records.{Link, Sending, Effect}
use Rattle.link.specs.LinkWords.{link_words, link_of, is_link, time_words, time_of, is_time}
use Rattle.link.specs.LinkCalls.{LinkLeft, StaysWith, answer_left, dispatch_left, send_left, end_of, no_link, both_refused}
use Rattle.link.specs.LinkCalls.{ReceiveLeft, ReceiptStays, receive_refused, receive_left, receipt_left, no_receipt}
use Rattle.link.specs.LinkCalls.{put_refused, put_done, put_left, take_refused, taken, take_left}
use Rattle.link.specs.LinkCalls.{offer_refused, offered, offer_left}
use Rattle.link.proofs.StayLaws.{link_stays, call_stays}

-- the refusal of a call that is chosen by the refusal that its tests come to
pub number_left : {A : Type 0} (refusal : A → ℕ) (link : Bool) (n : ℕ) (done : Bool → A) (none : A) →
    refusal (done true) ≡ 0 → refusal (done false) ≡ n → refusal none ≡ number STATE →
    refusal (pick link (done (eqb n 0)) none) ≡ pick link n (number STATE)
number_left refusal false n done none accepted refused other = other
number_left refusal true n done none accepted refused other = by (eqb n 0) refl
  where
    by : (zero : Bool) → eqb n 0 ≡ zero → refusal (done zero) ≡ n
    by true e = accepted ∙ sym (eqb-true n 0 e)
    by false e = refused

-- once its refusal is known, a refused call leaves what its words, places and zeros say
pub told : (left : LinkLeft) {words places zeros : List ℕ} {n : ℕ} → n ≡ left.refusal → (n ≡ 0 → ⊥) →
    StaysWith words places zeros left → record { refusal = n; state = words; places = places; out = zeros } ≡ left
told left e some stays =
    let kept = stays (λ z. some (e ∙ z)) in rw (e, sym kept.0, sym kept.1, sym kept.2)

told_host : (left : Left) {words zeros : List ℕ} {n : ℕ} → n ≡ left.refusal → (n ≡ 0 → ⊥) →
    Stays words zeros left → record { refusal = n; state = words; out = zeros } ≡ left
told_host left e some stays = let kept = stays (λ z. some (e ∙ z)) in rw (e, sym kept.0, sym kept.1)

told_receipt : (left : ReceiveLeft) {words rx time : List ℕ} {n : ℕ} → n ≡ left.refusal → (n ≡ 0 → ⊥) →
    ReceiptStays words rx time left →
    record { refusal = n; state = words; rx = rx; time = time; out = 0 ∷ 0 ∷ [] } ≡ left
told_receipt left e some stays =
    let kept = stays (λ z. some (e ∙ z)) in rw (e, sym kept.0, sym kept.1, sym kept.2, sym kept.3)

-- tick, reset, control and a fault that has a number: `s` is what the rule makes of the end
module _ (words rx tx : List ℕ) (s : Settled) where
  abbrev left : LinkLeft
  left =
      pick (is_link words)
      (answer_left (pick (eqb (both (end_of words rx tx)) 0) (accepted s) (refused (end_of words rx tx) (both (end_of words rx tx)))))
      (no_link words rx (0 ∷ []))

  pub accepted_left : is_link words ≡ true → both_refusal (length rx) (length tx) (link_of words) ≡ 0 →
      left
      ≡ record {
        refusal = 0;
        state = link_words s.moved.link;
        places = s.rx;
        out = narrow s.moved.discarded ∷ [];
      }
  unfolding end_of answer_left accepted answered
  accepted_left link passes = rw (link, eq-eqb _ 0 passes)

  left_refusal : left.refusal ≡ both_refused words (length rx) (length tx)
  unfolding end_of answer_left accepted answered refused refused_with no_link
  left_refusal =
      number_left (λ (left : LinkLeft). left.refusal) (is_link words) (both_refusal (length rx) (length tx) (link_of words))
      (λ (zero : Bool). answer_left (pick zero (accepted s) (refused (end_of words rx tx) (both (end_of words rx tx)))))
      (no_link words rx (0 ∷ [])) refl refl refl

  pub refused_as : (r : Refusal) → number r ≡ both_refused words (length rx) (length tx) →
      record { refusal = number r; state = words; places = rx; out = 0 ∷ [] } ≡ left
  refused_as r e = told left (e ∙ sym left_refusal) (not_none r) (call_stays words rx tx s)

  pub refused_left : (both_refused words (length rx) (length tx) ≡ 0 → ⊥) →
      left ≡ record { refusal = both_refused words (length rx) (length tx); state = words; places = rx; out = 0 ∷ [] }
  refused_left some = sym (told left (sym left_refusal) some (call_stays words rx tx s))

module _ (words rx tx : List ℕ) where
  abbrev booked : Sending
  booked = sending (length rx) tx (link_of words)

  send_refusal : (send_left words rx tx).refusal ≡ both_refused words (length rx) (length tx)
  unfolding send_left send_outcome end_of no_link dispatch_left dispatched dispatch_of send_refused
  send_refusal =
      number_left (λ (left : LinkLeft). left.refusal) (is_link words) (both_refusal (length rx) (length tx) (link_of words))
      (λ (zero : Bool).
      dispatch_left
      (pick zero (dispatched booked.sent (settles Quiet (record { link = booked.link; rx = rx; tx = tx })))
      (record { answer = send_refused (link_of words) (both (end_of words rx tx)); rx = rx })))
      (no_link words rx (0 ∷ 0 ∷ 0 ∷ [])) refl refl refl

  pub send_refused_as : (r : Refusal) → number r ≡ both_refused words (length rx) (length tx) →
      record { refusal = number r; state = words; places = rx; out = 0 ∷ 0 ∷ 0 ∷ [] } ≡ send_left words rx tx
  send_refused_as r e = told (send_left words rx tx) (e ∙ sym send_refusal) (not_none r) (link_stays.send words rx tx)

  pub send_refused_lem : (both_refused words (length rx) (length tx) ≡ 0 → ⊥) →
      send_left words rx tx
      ≡ record { refusal = both_refused words (length rx) (length tx); state = words; places = rx; out = 0 ∷ 0 ∷ 0 ∷ [] }
  send_refused_lem some = sym (told (send_left words rx tx) (sym send_refusal) some (link_stays.send words rx tx))

  pub send_accepted : is_link words ≡ true → both_refusal (length rx) (length tx) (link_of words) ≡ 0 →
      (sent : Sending) → sent ≡ sending (length rx) tx (link_of words) →
      (s : Settled) → s ≡ settles Quiet (record { link = sent.link; rx = rx; tx = tx }) →
      send_left words rx tx
      ≡ record {
        refusal = 0;
        state = link_words s.moved.link;
        places = s.rx;
        out = narrow s.moved.discarded ∷ sent_kind sent.sent ∷ sent_value sent.sent ∷ [];
      }
  unfolding send_left send_outcome end_of dispatch_left dispatched dispatch_of
  send_accepted link passes sent chosen s settled = rw (link, eq-eqb _ 0 passes, ← chosen, ← settled)

module _ (words rx tx time : List ℕ) (kind value : ℕ) where
  abbrev token : Token
  token = token_of kind value

  receive_refusal_lem :
      (receive_left words rx tx time kind value).refusal ≡ receive_refused words (length rx) (length tx) time token
  unfolding receive_left receive_outcome end_of no_receipt receipt_left token_accepted received receipt_of calls.receive_refused
  receive_refusal_lem =
      number_left (λ (left : ReceiveLeft). left.refusal) (is_link words && is_time time)
      (receive_refusal (length rx) (length tx) (link_of words) (time_of time) token)
      (λ (zero : Bool).
      receipt_left
      (pick zero (token_accepted (end_of words rx tx) (time_of time) token)
      (record {
        answer = calls.receive_refused (link_of words) (time_of time) (receiving (end_of words rx tx) (time_of time) token);
        rx = rx;
      })))
      (no_receipt words rx time) refl refl refl

  pub receive_refused_as : (r : Refusal) → number r ≡ receive_refused words (length rx) (length tx) time token →
      record { refusal = number r; state = words; rx = rx; time = time; out = 0 ∷ 0 ∷ [] }
      ≡ receive_left words rx tx time kind value
  receive_refused_as r e =
      told_receipt (receive_left words rx tx time kind value) (e ∙ sym receive_refusal_lem) (not_none r)
      (link_stays.receive words rx tx time kind value)

  pub receive_refused_lem : (receive_refused words (length rx) (length tx) time token ≡ 0 → ⊥) →
      receive_left words rx tx time kind value
      ≡ record {
        refusal = receive_refused words (length rx) (length tx) time token;
        state = words;
        rx = rx;
        time = time;
        out = 0 ∷ 0 ∷ [];
      }
  receive_refused_lem some =
      sym (told_receipt (receive_left words rx tx time kind value) (sym receive_refusal_lem) some
      (link_stays.receive words rx tx time kind value))

  pub receive_accepted : is_link words ≡ true → is_time time ≡ true →
      receive_refusal (length rx) (length tx) (link_of words) (time_of time) token ≡ 0 →
      (f : Effect) → f ≡ token_effect (length rx) (link_of words) (time_of time) token →
      (s : Settled) → s ≡ settles f.event (record { link = f.link; rx = token_places rx (link_of words) token; tx = tx }) →
      receive_left words rx tx time kind value
      ≡ record {
        refusal = 0;
        state = link_words s.moved.link;
        rx = s.rx;
        time = time_words f.time;
        out = narrow s.moved.discarded ∷ truth_word f.tick ∷ [];
      }
  unfolding receive_left receive_outcome end_of receipt_left token_accepted received receipt_of
  receive_accepted link clock passes f heard s settled = rw (link, clock, eq-eqb _ 0 passes, ← heard, ← settled)

discarded_fits : (size : ℕ) (l : Link) (n : ℕ) → narrow (puts size l n).discarded ≡ (puts size l n).discarded
unfolding puts
discarded_fits size l n = by l.marks.discarding
  where
    by : (discarding : Bool) →
        narrow (pick discarding (put_discarded l n) (put_stored size l n)).discarded
        ≡ (pick discarding (put_discarded l n) (put_stored size l n)).discarded
    by true = refl
    by false = refl

module _ (words tx : List ℕ) (n : ℕ) where
  abbrev l : Link
  l = link_of words

  pub put_accepted : is_link words ≡ true → put_refusal (length tx) l (fitted n) ≡ 0 →
      put_left words tx n
      ≡ record {
        refusal = 0;
        state = link_words (puts (length tx) l (fitted n)).link;
        places = puts_places tx l (fitted n);
        out = (puts (length tx) l (fitted n)).discarded ∷ [];
      }
  unfolding put_left put_answer put_places_after put_done answered
  put_accepted link passes = rw (link, eq-eqb _ 0 passes, discarded_fits (length tx) l (fitted n))

  put_refusal_lem : (put_left words tx n).refusal ≡ put_refused words (length tx) (fitted n)
  unfolding put_left put_answer put_places_after put_done answered refused_with no_link
  put_refusal_lem =
      number_left (λ (left : LinkLeft). left.refusal) (is_link words) (put_refusal (length tx) l (fitted n))
      (λ (zero : Bool).
      put_done
      (pick zero (answered (puts (length tx) l (fitted n))) (refused_with l (put_refusal (length tx) l (fitted n))))
      (pick zero (puts_places tx l (fitted n)) tx))
      (no_link words tx (0 ∷ [])) refl refl refl

  pub put_refused_as : (r : Refusal) → number r ≡ put_refused words (length tx) (fitted n) →
      record { refusal = number r; state = words; places = tx; out = 0 ∷ [] } ≡ put_left words tx n
  put_refused_as r e = told (put_left words tx n) (e ∙ sym put_refusal_lem) (not_none r) (link_stays.put words tx n)

  pub put_refused_lem : (put_refused words (length tx) (fitted n) ≡ 0 → ⊥) →
      put_left words tx n
      ≡ record { refusal = put_refused words (length tx) (fitted n); state = words; places = tx; out = 0 ∷ [] }
  put_refused_lem some = sym (told (put_left words tx n) (sym put_refusal_lem) some (link_stays.put words tx n))

module _ (words rx : List ℕ) where
  pub take_accepted_lem : is_link words ≡ true → take_refusal (length rx) (link_of words) ≡ 0 →
      take_left words rx
      ≡ record {
        refusal = 0;
        state = link_words (takes rx (link_of words) (taken_n_char rx (link_of words)));
        out = 0 ∷ taken_n_char rx (link_of words) ∷ [];
      }
  unfolding take_left take_answer take_accepted taken
  take_accepted_lem link passes = rw (link, eq-eqb _ 0 passes)

  take_refusal_lem : (take_left words rx).refusal ≡ take_refused words (length rx)
  unfolding take_left take_answer take_accepted calls.take_refused taken
  take_refusal_lem =
      number_left (λ (left : Left). left.refusal) (is_link words) (take_refusal (length rx) (link_of words))
      (λ (zero : Bool).
      taken
      (pick zero (take_accepted rx (link_of words))
      (calls.take_refused (link_of words) (take_refusal (length rx) (link_of words)))))
      _ refl refl refl

  pub take_refused_as : (r : Refusal) → number r ≡ take_refused words (length rx) →
      record { refusal = number r; state = words; out = 0 ∷ 0 ∷ [] } ≡ take_left words rx
  take_refused_as r e = told_host (take_left words rx) (e ∙ sym take_refusal_lem) (not_none r) (link_stays.take words rx)

  pub take_refused_lem : (take_refused words (length rx) ≡ 0 → ⊥) →
      take_left words rx ≡ record { refusal = take_refused words (length rx); state = words; out = 0 ∷ 0 ∷ [] }
  take_refused_lem some = sym (told_host (take_left words rx) (sym take_refusal_lem) some (link_stays.take words rx))

module _ (words : List ℕ) (code : ℕ) where
  pub offer_accepted_lem : is_link words ≡ true → offer_refusal (link_of words) ≡ 0 →
      offer_left words code ≡ record { refusal = 0; state = link_words (offers (link_of words) code); out = 0 ∷ [] }
  unfolding offer_left offer_answer offer_accepted offered
  offer_accepted_lem link passes = rw (link, eq-eqb _ 0 passes)

  offer_refusal_lem : (offer_left words code).refusal ≡ offer_refused words
  unfolding offer_left offer_answer offer_accepted offered refused_with
  offer_refusal_lem =
      number_left (λ (left : Left). left.refusal) (is_link words) (offer_refusal (link_of words))
      (λ (zero : Bool).
      offered
      (pick zero (offer_accepted (link_of words) code) (refused_with (link_of words) (offer_refusal (link_of words)))))
      _ refl refl refl

  pub offer_refused_as : (r : Refusal) → number r ≡ offer_refused words →
      record { refusal = number r; state = words; out = 0 ∷ [] } ≡ offer_left words code
  offer_refused_as r e = told_host (offer_left words code) (e ∙ sym offer_refusal_lem) (not_none r) (link_stays.offer words code)

  pub offer_refused_lem : (offer_refused words ≡ 0 → ⊥) →
      offer_left words code ≡ record { refusal = offer_refused words; state = words; out = 0 ∷ [] }
  offer_refused_lem some = sym (told_host (offer_left words code) (sym offer_refusal_lem) some (link_stays.offer words code))
