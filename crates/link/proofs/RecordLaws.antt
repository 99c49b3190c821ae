-- What a record that passes STATE keeps to: the bounds that the calls' arithmetic rests on.
-- Assumes nothing.
use mathlib.Core.Path.{◌≡◌}
use mathlib.Core.Bool.{false, not, ◌||◌, ◌&&◌}
use mathlib.Core.List.{[], ◌∷◌}
use Prim.Native.Nat.{ℕ, ◌≤◌, ◌<◌}
use native.Mathlib.Omega.{arith}
use lib.Dec.{eqb}
use borrow.Author.Tests.{ltb-false, leb-false}
use Rattle.vocabulary.specs.Refusals.{STATE, STORE, test}
use Rattle.vocabulary.proofs.RefusalLaws.{passed}
use Rattle.store.specs.Ring.{bad_store}
use Rattle.store.proofs.OrLaws.{or_left, or_right}
use Rattle.link.specs.Moves.{is_state, limit_of}
use Rattle.link.specs.Refusals.{bad_held, bad_given, bad_timer, bad_record, bad_rx_size, bad_tx_size, bad_receive, both_refusal}
use Rattle.link.specs.declared.LinkState.{LinkState}
use Rattle.link.specs.declared.LinkState.TheVariants.{ErrorReset, ErrorWait, Ready, Started, Connecting, Run}
use Rattle.link.specs.Records.{Link}

limit_small : (s : LinkState) → limit_of s ≤ 128
limit_small ErrorReset = omega arith
limit_small ErrorWait = omega arith
limit_small Ready = omega arith
limit_small Started = omega arith
limit_small Connecting = omega arith
limit_small Run = omega arith

module _ (l : Link) (good : bad_record l ≡ false) where
  pub held_good : bad_held l.stage.state l.credit.held.0 ≡ false
  held_good = or_left _ (bad_given l.stage.state l.credit.given.0) (or_left _ (bad_timer l.stage.state l.stage.timer) good)

  pub given_good : bad_given l.stage.state l.credit.given.0 ≡ false
  given_good =
      or_right (bad_held l.stage.state l.credit.held.0) _ (or_left _ (bad_timer l.stage.state l.stage.timer) good)

  pub timer_below : l.stage.timer < limit_of l.stage.state
  timer_below =
      leb-false (limit_of l.stage.state) l.stage.timer
      (or_right (bad_held l.stage.state l.credit.held.0 || bad_given l.stage.state l.credit.given.0) _ good)

  pub timer_small : l.stage.timer < 128
  timer_small = omega (arith, timer_below, limit_small l.stage.state)

  pub held_small : l.credit.held.0 ≤ 56
  held_small =
      ltb-false 56 l.credit.held.0
      (or_left _ (not (is_state l.stage.state Run) && not (eqb l.credit.held.0 0)) held_good)

  pub given_small : l.credit.given.0 ≤ 56
  given_small =
      ltb-false 56 l.credit.given.0
      (or_left _
      (not (is_state l.stage.state Connecting || is_state l.stage.state Run) && not (eqb l.credit.given.0 0))
      given_good)

-- a call that tests both stores and is not refused
pub both_record : (rx tx : ℕ) (l : Link) → both_refusal rx tx l ≡ 0 → bad_record l ≡ false
both_record rx tx l e =
    passed STATE (bad_record l)
    (test STORE (bad_rx_size rx || bad_tx_size tx) ∷ test STATE (bad_receive rx l || bad_store tx l.tx) ∷ []) e
