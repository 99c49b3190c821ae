-- A store's record comes back from its words.
-- Assumes nothing.
use Prim.Native.Nat.{◌^◌, ◌<◌}
use mathlib.Core.Path.{◌≡◌}
use Rattle.words.specs.Words.{narrow}
use Rattle.words.proofs.NumberLaws.{narrow_back}
use Rattle.store.specs.StoreWords.{store_of}
use Rattle.store.specs.declared.Store.{Store}

pub store_back : (s : Store) → s.front < 2 ^ 32 → s.len < 2 ^ 32 → store_of (narrow s.front) (narrow s.len) ≡ s
unfolding store_of
store_back s f l = rw (narrow_back s.front f, narrow_back s.len l)
