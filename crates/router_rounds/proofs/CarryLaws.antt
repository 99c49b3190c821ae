-- An N-Char put to a store leaves the records of the stores before it; and no input past the last is routed.
-- Assumes nothing.
use Prim.Native.Nat.{ℕ, ◌+◌, ◌*◌, ◌≤◌, ◌<◌}
use mathlib.Core.Path.{◌≡◌, sym, ◌∙◌}
use mathlib.Core.List.{List}
use native.Mathlib.Omega.{arith}
use native.Mathlib.Decide.{dec_lt}
use borrow.Author.Tests.{lt-ltb, le-ltb}
use Rattle.store.specs.StoreWords.{store_words}
use Rattle.store.specs.Changes.{put_store}
use Rattle.store.specs.declared.Store.{Store}
use Rattle.router_ports.specs.Ports.{mode_at, store_at}
use Rattle.router_ports.specs.Places.{size_in}
use Rattle.router_ports.specs.declared.Mode.TheVariants.{Idle, Routed}
use Rattle.router_ports.specs.RouterWords.{store_in, router_of, with_store_in, with_behind_in}
use Rattle.router_ports.proofs.PlaceWords.{store_in_lem}
use Rattle.router_ports.proofs.LayoutLaws.{sets_before}

module _ (words : List ℕ) (i k : ℕ) (h : i < k) (l : k < 22) where
  stands : (st : Store) → store_in (with_store_in words k st) i ≡ store_in words i
  unfolding with_store_in
  stands st =
      rw (
        lt-ltb k 22 l,
        sets_before words (2 * k + 66) (store_words st) (2 * i + 66) (omega (arith, h)),
        sets_before words (2 * k + 66) (store_words st) (2 * i + 66 + 1) (omega (arith, h)),
      )

  pub behind_keeps : (area : List ℕ) (n : ℕ) → store_at (router_of (with_behind_in words area k n)) i ≡ store_at (router_of words) i
  unfolding with_behind_in
  behind_keeps area n =
      let st = put_store (size_in area) (store_at (router_of words) k) n in
      store_in_lem (with_store_in words k st) i (omega (arith, h, l)) ∙ stands st ∙ sym (store_in_lem words i (omega (arith, h, l)))

pub routed_below : (words : List ℕ) (i o : ℕ) → mode_at (router_of words) i ≡ Routed o → i < 11
routed_below words i o e = go (dec_lt i 11)
  where
    go : Dec (i < 11) → i < 11
    go (yes h) = h
    go (no d) =
        let past : 11 ≤ i = omega (arith, d) in
        let idle : mode_at (router_of words) i ≡ Idle = rw (le-ltb i 11 past) in
        absurd (cc)
