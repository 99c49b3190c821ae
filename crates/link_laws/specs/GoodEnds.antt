-- An end that our calls left, lent the stores that our calls left, is never refused as STATE.
-- Assumes nothing.
use Rattle.std.specs.Prelude.{◌≡◌, false, List, ℕ, length}
use Rattle.vocabulary.specs.Refusals.{STATE, STORE, number}
use Rattle.time.specs.Time.{fresh_time, bad_time}
use Rattle.link.specs.Ends.{End}
use Rattle.link.specs.Refusals.{bad_rx_size, bad_tx_size}
use Rattle.link.specs.Calls.{both}
use Rattle.link_laws.specs.Calls.{Turn, turned, end_after, fresh_end}

-- An end passes, STATE and STORE that is, where a call that is lent both its stores is not refused.
abbrev pub Passes : End → Type 0
Passes e = both e ≡ 0

pub record NeverState : Type 0 where
  -- a fresh end passes, with stores of every size that STORE allows, and so does a fresh time record
  pub fresh : (rx tx : List ℕ) → bad_rx_size (length rx) ≡ false → bad_tx_size (length tx) ≡ false → Passes (fresh_end rx tx)
  pub fresh_time_lem : bad_time fresh_time ≡ false
  -- an end that passes does so after any calls with any arguments, refused or not, and a time record after each
  pub left : (e : End) (ts : List Turn) → Passes e → Passes (end_after e ts)
  pub left_time : (e : End) (t : Turn) → bad_time t.time ≡ false → bad_time (turned e t).time ≡ false
  -- and no call on what passes is refused as STATE, or as STORE
  pub never_state : (e : End) (t : Turn) → Passes e → bad_time t.time ≡ false → (turned e t).refusal ≡ number STATE → ⊥
  pub never_store : (e : End) (t : Turn) → Passes e → bad_time t.time ≡ false → (turned e t).refusal ≡ number STORE → ⊥
