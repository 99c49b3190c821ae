-- A walk through a store: what is found in those that wait, from what was passed and what is left.
-- Assumes nothing.
use Rattle.std.proofs.Common.{◌≡◌, true, false, length, ℕ, ◌+◌, ◌-◌, ◌≤◌, ◌<◌, List}
use native.Mathlib.Nat.{add_assoc, zero-add, add-zero}
use native.Mathlib.Omega.{arith}
use lib.ListN.{get_or}
use Rattle.vocabulary.specs.NChars.{is_end}
use Rattle.store.specs.Ring.{around, standing}
use Rattle.store.specs.Packets.{through_end, holds_end}
use Rattle.store.specs.Changes.{found_in}
use Rattle.store.specs.declared.Found.{Found}
use Rattle.store.proofs.PlaceLaws.{standing_next}
use Rattle.store.proofs.ReadLaws.{end_as_read}

-- found where `count` were passed and `ns` are left
abbrev pub after : ℕ → List ℕ → Found
after count ns = record { count = count + through_end ns; ended = holds_end ns }

pub starts : (ns : List ℕ) → found_in ns ≡ after 0 ns
unfolding found_in
starts ns = rw (zero-add (through_end ns))

module _ (places : List ℕ) (at len count : ℕ) where
  pub runs_dry : len ≤ count → after count (standing places at (len - count)) ≡ record { count = count; ended = false }
  unfolding standing through_end holds_end
  runs_dry h = let none : len - count ≡ 0 = omega arith in rw (none, add-zero count)

  module _ (more : count < len) where
    pub stops : is_end (get_or places at 0) ≡ true →
        after count (standing places at (len - count)) ≡ record { count = count + 1; ended = true }
    unfolding through_end holds_end
    stops e = rw (standing_next places at len count more, end_as_read (get_or places at 0), e)

    pub passes : is_end (get_or places at 0) ≡ false →
        after count (standing places at (len - count))
        ≡ after (count + 1) (standing places (around (length places) (at + 1)) (len - (count + 1)))
    unfolding through_end holds_end
    passes e = rw (standing_next places at len count more, end_as_read (get_or places at 0), e, add_assoc)
