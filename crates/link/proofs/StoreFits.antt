-- The numbers of a store that fit their words fit them after a put and after a drop: of a good store they are at most its
-- size, and a bad one stays as it is.
-- Assumes nothing.
use Prim.Native.Nat.{ℕ, ◌≤◌, ◌<◌}
use mathlib.Core.Path.{◌≡◌, refl}
use mathlib.Core.Bool.{Bool, true, false}
use mathlib.Core.List.{List}
use native.Mathlib.Omega.{arith}
use lib.ListN.{length}
use Rattle.store.specs.declared.Store.{Store}
use Rattle.store.specs.Ring.{bad_store}
use Rattle.store.specs.Changes.{fresh_store, put_store, dropped}
use Rattle.store.proofs.RingLaws.{front_below, len_within, put_good, drop_good}
use Rattle.link.specs.InPlace.{SmallEnough, FitsStore}

module _ (places : List ℕ) (s : Store) (small : SmallEnough places) (fits : FitsStore s) where
  good_fits : (t : Store) → bad_store (length places) t ≡ false → FitsStore t
  good_fits t good =
      let f : t.front < length places = front_below (length places) t good in
      let l : t.len ≤ length places = len_within (length places) t good in
      (omega (arith, small, f), omega (arith, small, l))

  pub put_fits : (n : ℕ) → FitsStore (put_store (length places) s n)
  unfolding put_store
  put_fits n = go (bad_store (length places) s) refl
    where
      go : (bad : Bool) → bad_store (length places) s ≡ bad → FitsStore (put_store (length places) s n)
      go true e = rw e fits
      go false e = good_fits (put_store (length places) s n) (put_good (length places) s n e)

  pub drop_fits : (count : ℕ) → FitsStore (dropped (length places) s count)
  unfolding dropped
  drop_fits count = go (bad_store (length places) s) refl
    where
      go : (bad : Bool) → bad_store (length places) s ≡ bad → FitsStore (dropped (length places) s count)
      go true e = rw e fits
      go false e = good_fits (dropped (length places) s count) (drop_good (length places) s e count)

pub fresh_fits : FitsStore fresh_store
unfolding fresh_store
fresh_fits = (omega arith, omega arith)
