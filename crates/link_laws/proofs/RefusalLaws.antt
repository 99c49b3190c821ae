-- The numbers by which a call on a good end may be refused: never STATE's, unless the time record is bad, nor STORE's.
-- Assumes nothing.
use mathlib.Core.Path.{◌≡◌}
use mathlib.Core.Bool.{false, not, ◌&&◌}
use Prim.Native.Nat.{ℕ}
use native.Mathlib.Omega.{arith}
use lib.ListN.{length}
use Rattle.vocabulary.specs.Refusals.{STATE, STORE, number}
use Rattle.vocabulary.specs.NChars.{above_eep}
use Rattle.vocabulary.specs.Tokens.{bad_char}
use Rattle.vocabulary.specs.declared.Token.{Token}
use Rattle.store.specs.Ring.{empty, full}
use Rattle.time.specs.Time.{bad_time}
use Rattle.time.specs.declared.Time.{Time}
use Rattle.link.specs.Ends.{End}
use Rattle.link.specs.Moves.{is_state}
use Rattle.link.specs.Refusals.{put_refusal, take_refusal, offer_refusal}
use Rattle.link.specs.Calls.{both, receiving}
use Rattle.link.specs.declared.LinkState.TheVariants.{Run}
use Rattle.link_laws.proofs.EndLaws.{Good, record_passes, sizes_pass, stores_pass, receive_passes, good_passes}
use Rattle.link_laws.proofs.TestLaws.{either_way}

-- a number that is neither of the two
abbrev pub Other : ℕ → Type 0
Other n = (n ≡ number STATE → ⊥) × (n ≡ number STORE → ⊥)

pub other_none : Other 0
other_none = omega arith

module _ (e : End) (g : Good e) where
  passes : both e ≡ 0
  passes = good_passes e g

  pub receive_other : (time : Time) (t : Token) → bad_time time ≡ false → Other (receiving e time t)
  receive_other time t clock =
      rw (record_passes e passes, clock, sizes_pass e passes, stores_pass e passes)
      (either_way Other (bad_char t) 5 0 (λ h. omega arith) (λ h. omega arith))

  pub put_other : (n : ℕ) → Other (put_refusal (length e.tx) e.link n)
  put_other n =
      rw (record_passes e passes, g.sound.tx_size, g.sound.tx_good)
      (either_way Other (above_eep n) 5 _ (λ h. omega arith) λ h.
      either_way Other (not e.link.marks.discarding && full (length e.tx) e.link.tx) 10 0
      (λ k. omega arith) (λ k. omega arith))

  pub take_other : Other (take_refusal (length e.rx) e.link)
  take_other =
      rw (record_passes e passes, g.sound.rx_size, receive_passes e passes)
      (either_way Other (empty e.link.rx) 9 0 (λ h. omega arith) (λ h. omega arith))

  pub offer_other : Other (offer_refusal e.link)
  offer_other =
      rw (record_passes e passes)
      (either_way Other (not (is_state e.link.stage.state Run)) 8 0 (λ h. omega arith) (λ h. omega arith))
