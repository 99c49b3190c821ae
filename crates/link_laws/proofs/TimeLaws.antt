-- A time record that passes does so after every call: only a received Time-Code changes it, and to a count modulo 64.
-- Assumes nothing.
use mathlib.Core.Path.{◌≡◌}
use mathlib.Core.Bool.{false, ◌||◌}
use Prim.Native.Nat.{ℕ, ◌%◌}
use native.Mathlib.Omega.{arith}
use lib.Dec.{eqb}
use lib.ListN.{length}
use borrow.Author.Tests.{le-ltb}
use Rattle.vocabulary.specs.declared.Token.{Token}
use Rattle.vocabulary.specs.declared.Token.TheVariants.{Null, Fct, NChar, TimeCode}
use Rattle.time.specs.Time.{bad_time, is_next, time_after}
use Rattle.time.specs.declared.Time.{Time}
use Rattle.link.specs.Ends.{End}
use Rattle.link.specs.Moves.{is_state}
use Rattle.link.specs.Credit.{passes56, none_given}
use Rattle.link.specs.Received.{fct_effect, n_char_effect, time_code_effect, ignores_token, heard_effect, token_effect}
use Rattle.link.specs.Calls.{Outcome, receipt_of, received, receive_refused, receiving, token_accepted, receive_outcome}
use Rattle.link.specs.declared.LinkState.TheVariants.{Connecting, Run}
use Rattle.link.specs.Records.{Link, Effect, Receipt}
use Rattle.link_laws.specs.Calls.{Call, tick, send, take, reset, fault, control, receive, put, offer, replied}
use Rattle.link_laws.specs.Calls.{replied_to_send, replied_to_token, replied_to_take, reply}
use Rattle.link_laws.proofs.TestLaws.{either_way}

module _ (time : Time) (good : bad_time time ≡ false) where
  abbrev Keeps : Effect → Type 0
  Keeps f = bad_time f.time ≡ false

  counted_good : (v : ℕ) → bad_time (time_after time v) ≡ false
  unfolding time_after
  counted_good v =
      either_way (λ (t : Time). bad_time t ≡ false) (is_next time v) _ _ (λ h. le-ltb 63 (v % 64) (omega arith)) (λ h. good)

  heard_good : (size : ℕ) (l : Link) (t : Token) → Keeps (heard_effect size l time t)
  unfolding fct_effect n_char_effect time_code_effect
  heard_good size l Null = good
  heard_good size l Fct =
      either_way Keeps (is_state l.stage.state Connecting || is_state l.stage.state Run) _ _
      (λ h. either_way Keeps (passes56 l.credit.held.0) _ _ (λ k. good) (λ k. good)) (λ h. good)
  heard_good size l (NChar n) =
      either_way Keeps (is_state l.stage.state Run) _ _
      (λ h. either_way Keeps (none_given l.credit.given.0) _ _ (λ k. good) (λ k. good)) (λ h. good)
  heard_good size l (TimeCode v) =
      either_way Keeps (is_state l.stage.state Run) _ _ (λ h. counted_good v) (λ h. good)

  token_good : (size : ℕ) (l : Link) (t : Token) → Keeps (token_effect size l time t)
  unfolding token_effect
  token_good size l t = either_way Keeps (ignores_token l t) _ _ (λ h. good) (λ h. heard_good size l t)

  receive_good : (e : End) (t : Token) → bad_time (reply e time (receive t)).time ≡ false
  unfolding receive_outcome token_accepted received receipt_of receive_refused replied_to_token
  receive_good e t =
      either_way (λ (o : Outcome Receipt). bad_time o.answer.time ≡ false) (eqb (receiving e time t) 0) _ _
      (λ h. token_good (length e.rx) e.link t) (λ h. good)

  pub time_good : (e : End) (c : Call) → bad_time (reply e time c).time ≡ false
  unfolding replied replied_to_send replied_to_take
  time_good e tick = good
  time_good e send = good
  time_good e take = good
  time_good e reset = good
  time_good e (fault f) = good
  time_good e (control c) = good
  time_good e (receive t) = receive_good e t
  time_good e (put n) = good
  time_good e (offer v) = good
