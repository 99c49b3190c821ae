-- What can happen at a call on a good end: it is refused and nothing changes; or its effect is followed by the one move
-- that fits; or the host puts, takes, offers a Time-Code or resets. What holds of these holds of every call.
-- Assumes nothing.
use mathlib.Core.Path.{◌≡◌, refl, sym, ◌∙◌}
use mathlib.Core.Bool.{Bool, true, false, not, ◌&&◌}
use mathlib.Core.List.{List, [], ◌∷◌, append-nil}
use Prim.Native.Nat.{ℕ}
use native.Mathlib.Omega.{arith}
use lib.Dec.{eqb}
use lib.ListN.{length}
use Rattle.std.specs.Prelude.{Option, None}
use Rattle.vocabulary.specs.Choice.{pick}
use borrow.Author.Tests.{eqb-true}
use Rattle.vocabulary.specs.NChars.{above_eep}
use Rattle.vocabulary.specs.declared.Token.{Token}
use Rattle.store.specs.Ring.{empty, full}
use Rattle.time.specs.Time.{bad_time}
use Rattle.time.specs.declared.Time.{Time}
use Rattle.link.specs.Ends.{End, with_controls}
use Rattle.link.specs.Received.{counted, fault_event, token_places}
use Rattle.link.specs.Recovery.{settles}
use Rattle.link.specs.Reset.{resets}
use Rattle.link.specs.Hosts.{puts, takes}
use Rattle.link.specs.Refusals.{receive_tests, put_tests, take_tests, put_refusal, take_refusal, offer_refusal}
use Rattle.link.specs.Calls.{Outcome, refused_with, answered, accepted, refused, both, with_link, tick_outcome}
use Rattle.link.specs.Calls.{fault_outcome, control_outcome, reset_outcome, dispatch_of, dispatched, sent, send_outcome}
use Rattle.link.specs.Calls.{receipt_of, received, receive_refused, after_token, receiving, token_accepted}
use Rattle.link.specs.Calls.{receive_outcome, put_answer, put_places_after, take_accepted, take_refused, take_answer}
use Rattle.link.specs.Calls.{offer_accepted, offer_answer}
use Rattle.link.specs.declared.Event.{Event}
use Rattle.link.specs.declared.Event.TheVariants.{Quiet}
use Rattle.link.specs.declared.FaultKind.{FaultKind}
use Rattle.link.specs.Records.{Controls}
use Rattle.link.specs.Records.{Link, Answer, Receipt, Taken}
use Rattle.link_laws.specs.Tokens.{n_chars_on, tokens_of}
use Rattle.link_laws.specs.Calls.{Call, tick, send, take, reset, fault, control, receive, put, offer, Reply}
use Rattle.link_laws.specs.Calls.{is_reset, replied, replied_to_send, replied_to_token, replied_to_take, settled_reply}
use Rattle.link_laws.specs.Calls.{reply}
use Rattle.link_laws.specs.NothingLost.{heard_by, heard_in}
use Rattle.link_laws.proofs.EndLaws.{Good, good_passes}
use Rattle.link_laws.proofs.RefusalLaws.{Other, receive_other, put_other, take_other, offer_other}
use Rattle.link_laws.proofs.TestLaws.{either_way, passed_test}
use Rattle.link_laws.proofs.RecoveryLaws.{moved}
use Rattle.link_laws.proofs.EffectLaws.{Effected, nothing_done, controls_changed, tick_counted}
use Rattle.link_laws.proofs.TokenLaws.{heeded, token_effect_lem, heeded_stored}
use Rattle.link_laws.proofs.SendLaws.{send_effect}
use Rattle.link_laws.proofs.HostLaws.{after_put, taken_of, after_take, after_offer}

-- the calls that are events, with what the table sees and what is heeded of what came from the wire
pub data IsEvent (e : End) : Call → Event → List Token → Type 0 where
  a_tick : IsEvent e tick Quiet []
  a_send : IsEvent e send Quiet []
  a_fault : (f : FaultKind) → IsEvent e (fault f) (fault_event e.link f) []
  a_control : (c : Controls) → IsEvent e (control c) Quiet []
  a_token : (t : Token) (time : Time) → IsEvent e (receive t) (after_token e time t).event (heeded e.link t)

pub event_heard : {e : End} {c : Call} {this : Event} {heard : List Token} → IsEvent e c this heard → heard_in e c ≡ n_chars_on heard
event_heard a_tick = refl
event_heard a_send = refl
event_heard (a_fault f) = refl
event_heard (a_control c) = refl
event_heard {e} (a_token t time) = append-nil (heard_by e.link t) ∙ sym (heeded_stored e.link t)

pub event_no_reset : {e : End} {c : Call} {this : Event} {heard : List Token} → IsEvent e c this heard → is_reset c ≡ false
event_no_reset a_tick = refl
event_no_reset a_send = refl
event_no_reset (a_fault f) = refl
event_no_reset (a_control c) = refl
event_no_reset (a_token t time) = refl

abbrev pub done : End → ℕ → List ℕ → Option Token → List ℕ → Time → Bool → Reply
done end discarded puts sent takes time tick_out =
    record {
      refusal = 0;
      end = end;
      time = time;
      discarded = discarded;
      puts = puts;
      sent = sent;
      takes = takes;
      tick_out = tick_out;
    }

abbrev pub not_done : ℕ → End → Time → Reply
not_done number e time =
    record {
      refusal = number;
      end = e;
      time = time;
      discarded = 0;
      puts = [];
      sent = None;
      takes = [];
      tick_out = false;
    }

pub data Happened (e : End) : Call → Reply → Type 0 where
  nothing : (c : Call) (number : ℕ) (time : Time) → eqb number 0 ≡ false → (bad_time time ≡ false → Other number) →
      Happened e c (not_done number e time)
  event : (c : Call) (event : Event) (mid : End) (sent : Option Token) (heard : List Token) (time : Time) (tick_out : Bool) →
      IsEvent e c event heard → Effected event e mid heard (tokens_of sent) →
      Happened e c (done (moved mid (settles event mid)) (settles event mid).moved.discarded [] sent [] time tick_out)
  a_put : (n : ℕ) (time : Time) → above_eep n ≡ false →
      not e.link.marks.discarding && full (length e.tx) e.link.tx ≡ false →
      Happened e (put n)
      (done (after_put e n) (puts (length e.tx) e.link n).discarded (n ∷ []) None [] time false)
  a_take : (time : Time) → empty e.link.rx ≡ false →
      Happened e take (done (after_take e) 0 [] None (taken_of e ∷ []) time false)
  an_offer : (v : ℕ) (time : Time) → Happened e (offer v) (done (after_offer e v) 0 [] None [] time false)
  a_reset : (time : Time) →
      Happened e reset
      (done (moved e (resets e.rx e.link)) (resets e.rx e.link).moved.discarded [] None [] time false)

module _ (e : End) (g : Good e) (time : Time) where
  -- those that test the record and both stores are not refused; and a tick, a fault and a control change sends and hears
  -- nothing before the move
  module _ (c : Call) (this : Event) (is_one : IsEvent e c this []) where
    settles_happened : (l : Link) → Effected this e (with_link e l) [] [] →
        Happened e c
        (settled_reply (pick (eqb (both e) 0) (accepted (settles this (with_link e l))) (refused e (both e))) e time)
    unfolding accepted answered replied
    settles_happened l f =
        rw (good_passes e g) (event c this (with_link e l) None [] time false is_one f)

  send_happened : Happened e send (reply e time send)
  unfolding send_outcome dispatched dispatch_of replied_to_send
  send_happened =
      rw (good_passes e g)
      (event send Quiet (with_link e (sent e).link) (sent e).sent [] time false a_send (send_effect e g))

  reset_happened : Happened e reset (reply e time reset)
  unfolding reset_outcome accepted answered replied
  reset_happened = rw (good_passes e g) (a_reset time)

  receive_happened : (t : Token) → Happened e (receive t) (reply e time (receive t))
  unfolding receive_outcome token_accepted received receipt_of receive_refused replied_to_token
  receive_happened t =
      either_way (λ (o : Outcome Receipt). Happened e (receive t) (replied_to_token o e.tx)) (eqb (receiving e time t) 0) _ _
      (λ h.
      event (receive t) (after_token e time t).event
      (record { link = (after_token e time t).link; rx = token_places e.rx e.link t; tx = e.tx }) None
      (heeded e.link t) (after_token e time t).time (after_token e time t).tick (a_token t time)
      (token_effect_lem e g time t
      (passed_test (receive_tests (length e.rx) (length e.tx) e.link time t) (eqb-true (receiving e time t) 0 h) 3
      (omega arith))))
      (λ h. nothing (receive t) (receiving e time t) time h (receive_other e g time t))

  offer_happened : (v : ℕ) → Happened e (offer v) (reply e time (offer v))
  unfolding offer_answer offer_accepted refused_with replied
  offer_happened v =
      either_way (λ (a : Answer). Happened e (offer v) (replied [] a e.rx e.tx time))
      (eqb (offer_refusal e.link) 0) _ _
      (λ h. an_offer v time) (λ h. rw h (nothing (offer v) (offer_refusal e.link) time h (λ k. offer_other e g)))

  take_happened : Happened e take (reply e time take)
  unfolding take_answer take_accepted take_refused replied_to_take
  take_happened =
      either_way (λ (a : Taken). Happened e take (replied_to_take a e.rx e.tx time))
      (eqb (take_refusal (length e.rx) e.link) 0) _ _
      (λ h.
      a_take time
      (passed_test (take_tests (length e.rx) e.link) (eqb-true (take_refusal (length e.rx) e.link) 0 h) 3
      (omega arith)))
      (λ h. rw h (nothing take (take_refusal (length e.rx) e.link) time h (λ k. take_other e g)))

  put_happened : (n : ℕ) → Happened e (put n) (reply e time (put n))
  unfolding put_answer put_places_after answered refused_with replied
  put_happened n = go (eqb (put_refusal (length e.tx) e.link n) 0) refl
    where
      go : (passes : Bool) → eqb (put_refusal (length e.tx) e.link n) 0 ≡ passes →
          Happened e (put n) (reply e time (put n))
      go true h =
          let none : put_refusal (length e.tx) e.link n ≡ 0 = eqb-true (put_refusal (length e.tx) e.link n) 0 h in
          rw h
          (a_put n time (passed_test (put_tests (length e.tx) e.link n) none 3 (omega arith))
          (passed_test (put_tests (length e.tx) e.link n) none 4 (omega arith)))
      go false h = rw (h, h) (nothing (put n) (put_refusal (length e.tx) e.link n) time h (λ k. put_other e g n))

  pub happened : (c : Call) → Happened e c (reply e time c)
  unfolding tick_outcome fault_outcome control_outcome
  happened tick = settles_happened tick Quiet a_tick (counted e.link) (tick_counted e g)
  happened send = send_happened
  happened take = take_happened
  happened reset = reset_happened
  happened (fault f) =
      settles_happened (fault f) (fault_event e.link f) (a_fault f) e.link (nothing_done e g (fault_event e.link f))
  happened (control c) =
      settles_happened (control c) Quiet (a_control c) (with_controls e.link c) (controls_changed e g c)
  happened (receive t) = receive_happened t
  happened (put n) = put_happened n
  happened (offer v) = offer_happened v
