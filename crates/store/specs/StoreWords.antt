-- A store's record as words of 32 bits: its front and its length.
-- Assumes nothing.
use Rattle.std.specs.Prelude.{ℕ, List, [], ◌∷◌}
use Rattle.words.specs.Words.{narrow}
use Rattle.store.specs.declared.Store.{Store}

-- the fields of a record in order
abbrev pub store_fields : Store → List ℕ
store_fields s = s.front ∷ s.len ∷ []

-- the two words of a store's record, and the record that two words load
abbrev pub store_words : Store → List ℕ
store_words s = narrow s.front ∷ narrow s.len ∷ []

unfoldable pub store_of : ℕ → ℕ → Store
store_of front len = record { front = front; len = len }
