-- A store: N-Chars wait in a ring of places, from `front` on, `len` of them. The places are lent beside the record.
-- Assumes nothing.
use Rattle.std.specs.Prelude.{ℕ, zero, suc, ◌+◌, ◌-◌, Bool, ◌||◌, List, [], ◌∷◌, length, get_or, leb, ltb}
use Rattle.vocabulary.specs.Choice.{pick}
use Rattle.vocabulary.specs.NChars.{read_as}
use Rattle.store.specs.declared.Store.{Store}

-- a place counted past the last is one from the first on
abbrev pub around : ℕ → ℕ → ℕ
around size at = pick (ltb at size) at (at - size)

-- the N-Chars that stand in `count` places from `at` on, each as it is read
unfoldable pub standing : List ℕ → ℕ → ℕ → List ℕ
standing places at zero = []
standing places at (suc count) = read_as (get_or places at 0) ∷ standing places (around (length places) (at + 1)) count

-- the waiting N-Chars, the next to be taken first: what the rest of the product reasons with
abbrev pub waiting : List ℕ → Store → List ℕ
waiting places s = standing places s.front s.len

-- 1 STATE: "a store's front at or past its size, or its length beyond it"
abbrev pub bad_store : ℕ → Store → Bool
bad_store size s = leb size s.front || ltb size s.len

-- places that hold no N-Char
abbrev pub free : ℕ → Store → ℕ
free size s = size - s.len

abbrev pub empty : Store → Bool
empty s = leb s.len 0

abbrev pub full : ℕ → Store → Bool
full size s = leb size s.len
