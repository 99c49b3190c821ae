-- "each refusal comes exactly when the table says": the refusal that a call answers is the number of the first of its tests
-- that applies, 0 where none does, and the tests stand in the table's order.
-- Assumes nothing.
use Rattle.std.specs.Prelude.{◌≡◌, Bool, List, ℕ, length}
use Rattle.vocabulary.specs.Refusals.{Test, first_of, TestedInOrder}
use Rattle.vocabulary.specs.declared.Token.{Token}
use Rattle.characters.specs.Refusals.{decoder_tests, encoder_tests}
use Rattle.characters.specs.Calls.{bit_answer, tick_answer, encode_answer}
use Rattle.characters.specs.States.{Decoder, Encoder}
use Rattle.time.specs.declared.Time.{Time}
use Rattle.link.specs.Ends.{End}
use Rattle.link.specs.Refusals.{both_tests, receive_tests, put_tests, take_tests, offer_tests}
use Rattle.link.specs.Calls.{tick_outcome, fault_outcome, control_outcome, reset_outcome, send_outcome, receive_outcome}
use Rattle.link.specs.Calls.{put_answer, take_answer, offer_answer}
use Rattle.link.specs.Records.{Controls}
use Rattle.link.specs.declared.FaultKind.{FaultKind}
use Rattle.link.specs.Records.{Link}
use Rattle.router_ports.specs.Places.{Machine}
use Rattle.router_ports.specs.Records.{Router as RouterState}
use Rattle.router.specs.Refusals.{put_tests as router_put_tests, take_tests as router_take_tests}
use Rattle.router.specs.Refusals.{run_tests as router_run_tests, row_tests as router_row_tests}
use Rattle.router.specs.Refusals.{held_tests as router_held_tests}
use Rattle.router.specs.Calls.{puts, takes, runs, reads_row}
use Rattle.router.specs.Held.{still_held}

-- a call that answers this refusal, by these tests
pub record Exactly (answered : ℕ) (tests : List Test) : Type 0 where
  pub first : answered ≡ first_of tests
  pub ordered : TestedInOrder tests

-- what tick, fault, control, reset and send test of an end
abbrev pub both_of : End → List Test
both_of e = both_tests (length e.rx) (length e.tx) e.link

pub record RefusedExactly : Type 0 where
  pub encode : (e : Encoder) (t : Token) → Exactly (encode_answer e t).refusal (encoder_tests t)
  pub bit : (d : Decoder) (b : Bool) → Exactly (bit_answer d b).refusal (decoder_tests d)
  pub decoder_tick : (d : Decoder) → Exactly (tick_answer d).refusal (decoder_tests d)
  pub tick : (e : End) → Exactly (tick_outcome e).answer.refusal (both_of e)
  pub fault : (e : End) (f : FaultKind) → Exactly (fault_outcome e f).answer.refusal (both_of e)
  pub control : (e : End) (c : Controls) → Exactly (control_outcome e c).answer.refusal (both_of e)
  pub reset : (e : End) → Exactly (reset_outcome e).answer.refusal (both_of e)
  pub send : (e : End) → Exactly (send_outcome e).answer.refusal (both_of e)
  pub receive : (e : End) (time : Time) (t : Token) →
      Exactly (receive_outcome e time t).answer.refusal (receive_tests (length e.rx) (length e.tx) e.link time t)
  pub put : (size : ℕ) (l : Link) (n : ℕ) → Exactly (put_answer size l n).refusal (put_tests size l n)
  pub take : (rx : List ℕ) (l : Link) → Exactly (take_answer rx l).refusal (take_tests (length rx) l)
  pub offer : (l : Link) (v : ℕ) → Exactly (offer_answer l v).refusal (offer_tests l)
  pub router_put : (x : Machine) (port n : ℕ) → Exactly (puts x port n).refusal (router_put_tests x port n)
  pub router_take : (x : Machine) (port : ℕ) → Exactly (takes x port).refusal (router_take_tests x port)
  pub router_run : (x : Machine) (table : List ℕ) (limit : ℕ) →
      Exactly (runs x table limit).refusal (router_run_tests x limit)
  pub router_read : (s : RouterState) (table : List ℕ) (row : ℕ) →
      Exactly (reads_row s table row).refusal (router_row_tests s row)
  pub router_held : (s : RouterState) (port : ℕ) → Exactly (still_held s port).refusal (router_held_tests s port)
