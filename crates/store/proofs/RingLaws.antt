-- What waits in a store, as a list, before and after each change. Crates above reason with these lists, not with places.
-- Assumes nothing.
use mathlib.Core.Path.{◌≡◌, refl, sym, ap, ◌∙◌}
use mathlib.Core.Bool.{Bool, true, false, ◌||◌}
use mathlib.Core.List.{List, [], ◌∷◌, ◌++◌, Memᴰ}
use Prim.Native.Nat.{ℕ, ◌+◌, ◌-◌, ◌≤◌, ◌<◌}
use native.Mathlib.Nat.{sub-zero}
use native.Mathlib.Omega.{arith}
use lib.ListN.{length, set, drop, length-set}
use lib.Seq.{get_or-set_same, drop_at}
use lib.Dec.{leb, ltb}
use borrow.Author.Tests.{leb-true, leb-false, ltb-false, lt-leb, le-ltb}
use Rattle.vocabulary.specs.Choice.{pick}
use Rattle.vocabulary.specs.NChars.{read_as}
use Rattle.store.specs.Ring.{around, standing, waiting, bad_store, empty, full}
use Rattle.store.specs.Packets.{through_end, holds_end}
use Rattle.store.specs.Changes.{fresh_store, refuses_put, put_store, put_places, front_of, dropped, found_in, found}
use Rattle.store.specs.declared.Store.{Store}
use Rattle.store.proofs.OrLaws.{or_left, or_right}
use Rattle.store.proofs.PlaceLaws.{around_below, standing_length, standing_small, standing_next}
use Rattle.store.proofs.PlaceLaws.{standing_split, standing_kept}

pub waiting_length : (places : List ℕ) (s : Store) → length (waiting places s) ≡ s.len
waiting_length places s = standing_length places s.front s.len

pub waiting_small : (places : List ℕ) (s : Store) (n : ℕ) → Memᴰ n (waiting places s) → n ≤ 257
waiting_small places s = standing_small places s.front s.len

pub empty_waits : (places : List ℕ) (s : Store) → empty s ≡ true → waiting places s ≡ []
unfolding standing
empty_waits places s e = let none : s.len ≡ 0 = omega (arith, leb-true s.len 0 e) in rw none

-- a store that is not bad

pub good_store : (size : ℕ) (s : Store) → s.front < size → s.len ≤ size → bad_store size s ≡ false
good_store size s f l = rw (lt-leb _ _ f, le-ltb _ _ l)

module _ (size : ℕ) (s : Store) (good : bad_store size s ≡ false) where
  pub front_below : s.front < size
  front_below = leb-false _ _ (or_left _ _ good)

  pub len_within : s.len ≤ size
  len_within = ltb-false _ _ (or_right (leb size s.front) _ good)

  -- a change that is made unless it is refused
  change_good : (t : Store) (refused : Bool) → (refused ≡ false → bad_store size t ≡ false) →
      bad_store size (pick refused s t) ≡ false
  change_good t true h = good
  change_good t false h = h refl

-- a fresh store

pub fresh_waits : (places : List ℕ) → waiting places fresh_store ≡ []
unfolding standing fresh_store
fresh_waits places = refl

pub fresh_good : (size : ℕ) → 0 < size → bad_store size fresh_store ≡ false
unfolding fresh_store
fresh_good size h = good_store size fresh_store h (omega arith)

-- put

abbrev longer : Store → Store
longer s = record { front = s.front; len = s.len + 1 }

module _ (size : ℕ) (s : Store) (n : ℕ) (good : bad_store size s ≡ false) where
  pub put_good : bad_store size (put_store size s n) ≡ false
  unfolding put_store
  put_good =
      change_good size s good (longer s) (refuses_put size s) λ h.
      let room : s.len < size = leb-false size s.len (or_right (bad_store size s) (full size s) h) in
      good_store size (longer s) (front_below size s good) (omega arith)

  put_longer : full size s ≡ false → put_store size s n ≡ longer s
  unfolding put_store
  put_longer room = rw (good, room)

  pub put_len : full size s ≡ false → (put_store size s n).len ≡ s.len + 1
  put_len room = ap (λ (t : Store). t.len) (put_longer room)

module _ (places : List ℕ) (s : Store) (n : ℕ) where
  written : List ℕ
  written = set places (around (length places) (s.front + s.len)) n

  pub put_keeps_length : length (put_places places s n) ≡ length places
  unfolding put_places written
  put_keeps_length = go (refuses_put (length places) s)
    where
      go : (b : Bool) → length (pick b places written) ≡ length places
      go true = refl
      go false = length-set places (around (length places) (s.front + s.len)) n

module _ (places : List ℕ) (s : Store) (n : ℕ) (good : bad_store (length places) s ≡ false) where
  pub put_appends : full (length places) s ≡ false →
      waiting (put_places places s n) (put_store (length places) s n) ≡ waiting places s ++ read_as n ∷ []
  unfolding standing put_places
  put_appends room =
      let f : s.front < length places = front_below (length places) s good in
      let l : s.len < length places = leb-false (length places) s.len room in
      let behind : ℕ = around (length places) (s.front + s.len) in
      let inside : behind < length places = around_below (length places) (s.front + s.len) (omega arith) in
      let same : length (set places behind n) ≡ length places = length-set places behind n in
      rw (put_longer (length places) s n good room, good, room)
      (standing_split (set places behind n) s.front s.len 1 (omega arith) (omega arith)
      ∙ rw (same, get_or-set_same places behind n 0 inside, standing_kept places s.front s.len behind n f l refl))

-- drop

abbrev shorter : ℕ → Store → ℕ → Store
shorter size s count = record { front = around size (s.front + count); len = s.len - count }

module _ (size : ℕ) (s : Store) (good : bad_store size s ≡ false) where
  pub drop_good : (count : ℕ) → bad_store size (dropped size s count) ≡ false
  unfolding dropped
  drop_good count =
      change_good size s good (shorter size s count) (bad_store size s || ltb s.len count) λ h.
      let f : s.front < size = front_below size s good in
      let l : s.len ≤ size = len_within size s good in
      let k : count ≤ s.len = ltb-false s.len count (or_right (bad_store size s) (ltb s.len count) h) in
      good_store size (shorter size s count) (around_below size (s.front + count) (omega arith)) (omega arith)

  drop_shorter : (count : ℕ) → count ≤ s.len → dropped size s count ≡ shorter size s count
  unfolding dropped
  drop_shorter count h = rw (good, le-ltb s.len count h)

  pub drop_len : (count : ℕ) → count ≤ s.len → (dropped size s count).len ≡ s.len - count
  drop_len count h = ap (λ (t : Store). t.len) (drop_shorter count h)

module _ (places : List ℕ) (s : Store) (good : bad_store (length places) s ≡ false) where
  pub drop_drops : (count : ℕ) → count ≤ s.len →
      waiting places (dropped (length places) s count) ≡ drop count (waiting places s)
  drop_drops count h =
      let f : s.front < length places = front_below (length places) s good in
      let l : s.len ≤ length places = len_within (length places) s good in
      let whole : s.len ≡ count + (s.len - count) = omega arith in
      let left : List ℕ = standing places (around (length places) (s.front + count)) (s.len - count) in
      ap (waiting places) (drop_shorter (length places) s good count h)
      ∙ sym (ap (λ (len : ℕ). drop count (standing places s.front len)) whole
      ∙ ap (drop count) (standing_split places s.front count (s.len - count) f (omega arith))
      ∙ drop_at (standing places s.front count) left count (standing_length places s.front count))

  pub front_is_first : empty s ≡ false →
      waiting places s ≡ front_of places s ∷ waiting places (dropped (length places) s 1)
  front_is_first some =
      let more : 0 < s.len = leb-false s.len 0 some in
      ap (standing places s.front) (sym (sub-zero s.len))
      ∙ standing_next places s.front s.len 0 more
      ∙ ap (λ (t : Store). front_of places s ∷ waiting places t) (sym (drop_shorter (length places) s good 1 more))

  -- what the walk finds

  pub found_count : (found places s).count ≡ through_end (waiting places s)
  unfolding found found_in
  found_count = rw good

  pub found_ended : (found places s).ended ≡ holds_end (waiting places s)
  unfolding found found_in
  found_ended = rw good
