-- Places of a ring, counted from one on. They split at any of them, and a write to the place behind them changes none.
-- Assumes nothing.
use mathlib.Core.Path.{◌≡◌, refl, sym, ap, ◌∙◌}
use mathlib.Core.List.Memᴰ
use mathlib.Core.List.{List, ◌∷◌, ◌++◌, Memᴰ}
use mathlib.Core.Logic.{⊎_elim}
use Prim.Native.Nat.{ℕ, zero, suc, ◌+◌, ◌-◌, ◌≤◌, ◌<◌}
use native.Mathlib.Nat.{zero-add, suc-add, add-zero}
use native.Mathlib.Omega.{arith}
use native.Mathlib.Decide.{dec_lt}
use lib.ListN.{length, get_or, set, length-set}
use lib.Seq.{get_or-set_other}
use borrow.Author.Tests.{le-ltb, lt-ltb}
use Rattle.vocabulary.specs.NChars.{read_as}
use Rattle.store.specs.Ring.{around, standing}
use Rattle.store.proofs.ReadLaws.{read_small}

around_inside : (size at : ℕ) → at < size → around size at ≡ at
around_inside size at h = rw (lt-ltb _ _ h)

around_past : (size at : ℕ) → size ≤ at → around size at ≡ at - size
around_past size at h = rw (le-ltb _ _ h)

pub around_below : (size at : ℕ) → at < size + size → around size at < size
around_below size at h = go (dec_lt at size)
  where
    go : Dec (at < size) → around size at < size
    go (yes i) = omega (arith, around_inside size at i)
    go (no o) = omega (arith, around_past size at (omega (arith, o)))

-- one place on and then `more`, or all at once
around_step : (size at more : ℕ) → at < size → more < size →
    around size (around size (at + 1) + more) ≡ around size (at + suc more)
around_step size at more h k = go (dec_lt (at + 1) size)
  where
    go : Dec (at + 1 < size) → around size (around size (at + 1) + more) ≡ around size (at + suc more)
    go (yes i) = ap (around size) (omega (arith, around_inside size (at + 1) i))
    go (no o) =
        let first : around size (at + 1) + more ≡ more = omega (arith, around_past size (at + 1) (omega (arith, o))) in
        ap (around size) first
        ∙ around_inside size more k
        ∙ omega (arith, around_past size (at + suc more) (omega (arith, o)))

-- less than once around is another place
around_moves : (size at more : ℕ) → at < size → 0 < more → more < size → at ≡ around size (at + more) → ⊥
around_moves size at more h z k e = go (dec_lt (at + more) size)
  where
    go : Dec (at + more < size) → ⊥
    go (yes i) = omega (arith, around_inside size (at + more) i)
    go (no o) = omega (arith, around_past size (at + more) (omega (arith, o)))

pub standing_length : (places : List ℕ) (at count : ℕ) → length (standing places at count) ≡ count
unfolding standing
standing_length places at zero = refl
standing_length places at (suc count) = ap suc (standing_length places (around (length places) (at + 1)) count)

pub standing_small : (places : List ℕ) (at count n : ℕ) → Memᴰ n (standing places at count) → n ≤ 257
unfolding standing
standing_small places at zero n m = absurd (Memᴰ.not-nil m)
standing_small places at (suc count) n m =
    ⊎_elim (λ e. rw e (read_small (get_or places at 0)))
    (standing_small places (around (length places) (at + 1)) count n)
    (Memᴰ.cases_cons m)

-- the first of those that are left, where some are
pub standing_next : (places : List ℕ) (at len count : ℕ) → count < len →
    standing places at (len - count)
    ≡ read_as (get_or places at 0) ∷ standing places (around (length places) (at + 1)) (len - (count + 1))
unfolding standing
standing_next places at len count h =
    let left : len - count ≡ suc (len - (count + 1)) = omega arith in
    ap (standing places at) left

pub standing_split : (places : List ℕ) (at count more : ℕ) → at < length places → count ≤ length places →
    standing places at (count + more)
    ≡ standing places at count ++ standing places (around (length places) (at + count)) more
unfolding standing
standing_split places at zero more h k = rw (zero-add more, add-zero at, around_inside (length places) at h)
standing_split places at (suc count) more h k =
    let next : ℕ = around (length places) (at + 1) in
    let inside : next < length places = around_below (length places) (at + 1) (omega arith) in
    rw (suc-add count more, ← around_step (length places) at count h k)
    (ap (λ (ns : List ℕ). read_as (get_or places at 0) ∷ ns) (standing_split places next count more inside (omega arith)))

-- a write to the place behind the counted ones
pub standing_kept : (places : List ℕ) (at count behind n : ℕ) → at < length places → count < length places →
    behind ≡ around (length places) (at + count) → standing (set places behind n) at count ≡ standing places at count
unfolding standing
standing_kept places at zero behind n h k e = refl
standing_kept places at (suc count) behind n h k e =
    let next : ℕ = around (length places) (at + 1) in
    let inside : next < length places = around_below (length places) (at + 1) (omega arith) in
    let other : at ≡ behind → ⊥ = λ same. around_moves (length places) at (suc count) h (omega arith) k (same ∙ e) in
    let same_behind : behind ≡ around (length places) (next + count) =
    e ∙ sym (around_step (length places) at count h (omega arith)) in
    rw (length-set places behind n, get_or-set_other places behind at n 0 other)
    (ap (λ (ns : List ℕ). read_as (get_or places at 0) ∷ ns)
    (standing_kept places next count behind n inside (omega arith) same_behind))
