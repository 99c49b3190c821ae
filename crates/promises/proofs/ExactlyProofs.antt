-- A call answers 0 where it accepts and the refusal's number where it refuses: one law, cited once for each call. That the
-- tests stand in the table's order is computed.
-- Assumes nothing.
use mathlib.Core.Path.{◌≡◌, refl}
use mathlib.Core.Bool.{Bool, true, false}
use Prim.Native.Nat.{ℕ}
use lib.Dec.{eqb}
use borrow.Author.Tests.{eqb-true}
use Rattle.vocabulary.specs.Choice.{pick}
use Rattle.characters.specs.Encoder.{sent}
use Rattle.characters.specs.Calls.{bit_answer, tick_answer, encode_answer, encode_refused, decode_accepted, decode_refused}
use Rattle.characters.specs.States.{Decoded, Encoded}
use Rattle.link.specs.Calls.{Outcome, refused_with, answered, accepted, refused, tick_outcome, fault_outcome}
use Rattle.link.specs.Calls.{control_outcome, reset_outcome, dispatch_of, dispatched, send_refused, send_outcome}
use Rattle.link.specs.Calls.{receipt_of, received, receive_refused, token_accepted, receive_outcome, put_answer}
use Rattle.link.specs.Calls.{take_accepted, take_refused, take_answer, offer_accepted, offer_answer}
use Rattle.link.specs.Records.{Answer, Dispatch, Receipt, Taken}
use Rattle.router.specs.Calls.{Put, puts, Took, took_one, takes, Run, told as router_told, runs, reads_row}
use Rattle.router.specs.Held.{held_through, held_refused, still_held}
use Rattle.router.specs.Records.{RowRead, StillHeld}
use Rattle.promises.specs.Exactly.{RefusedExactly}

-- what is read off an answer that is accepted where the number is 0, and refused with the number elsewhere, is the number
told : {A : Type 0} (read : A → ℕ) (n : ℕ) (yea nay : A) → read yea ≡ 0 → read nay ≡ n → read (pick (eqb n 0) yea nay) ≡ n
told read n yea nay zero number = at (eqb n 0) refl
  where
    at : (b : Bool) → eqb n 0 ≡ b → read (pick b yea nay) ≡ n
    at true e = rw (eqb-true n 0 e) zero
    at false e = number

pub refused_exactly : RefusedExactly
unfolding
    encode_answer sent encode_refused bit_answer tick_answer decode_accepted decode_refused refused_with answered accepted refused
    tick_outcome fault_outcome control_outcome reset_outcome dispatch_of dispatched send_refused send_outcome receipt_of received
    receive_refused token_accepted receive_outcome put_answer take_accepted take_refused take_answer offer_accepted offer_answer
    puts took_one takes router_told runs reads_row held_through held_refused still_held
refused_exactly =
    record {
      encode = λ e t. record { first = told (λ (a : Encoded). a.refusal) _ _ _ refl refl; ordered = refl };
      bit = λ d b. record { first = told (λ (a : Decoded). a.refusal) _ _ _ refl refl; ordered = refl };
      decoder_tick = λ d. record { first = told (λ (a : Decoded). a.refusal) _ _ _ refl refl; ordered = refl };
      tick = λ e. record { first = told (λ (o : Outcome Answer). o.answer.refusal) _ _ _ refl refl; ordered = refl };
      fault = λ e f. record { first = told (λ (o : Outcome Answer). o.answer.refusal) _ _ _ refl refl; ordered = refl };
      control = λ e c. record { first = told (λ (o : Outcome Answer). o.answer.refusal) _ _ _ refl refl; ordered = refl };
      reset = λ e. record { first = told (λ (o : Outcome Answer). o.answer.refusal) _ _ _ refl refl; ordered = refl };
      send = λ e. record { first = told (λ (o : Outcome Dispatch). o.answer.refusal) _ _ _ refl refl; ordered = refl };
      receive =
          λ e time t. record { first = told (λ (o : Outcome Receipt). o.answer.refusal) _ _ _ refl refl; ordered = refl };
      put = λ size l n. record { first = told (λ (a : Answer). a.refusal) _ _ _ refl refl; ordered = refl };
      take = λ rx l. record { first = told (λ (a : Taken). a.refusal) _ _ _ refl refl; ordered = refl };
      offer = λ l v. record { first = told (λ (a : Answer). a.refusal) _ _ _ refl refl; ordered = refl };
      router_put = λ x port n. record { first = told (λ (o : Put). o.refusal) _ _ _ refl refl; ordered = refl };
      router_take = λ x port. record { first = told (λ (o : Took). o.refusal) _ _ _ refl refl; ordered = refl };
      router_run = λ x table limit. record { first = told (λ (o : Run). o.refusal) _ _ _ refl refl; ordered = refl };
      router_read = λ s table row. record { first = told (λ (o : RowRead). o.refusal) _ _ _ refl refl; ordered = refl };
      router_held = λ s port. record { first = told (λ (o : StillHeld). o.refusal) _ _ _ refl refl; ordered = refl };
    }
