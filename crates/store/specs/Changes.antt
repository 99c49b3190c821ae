-- What is done to a store. On a bad one, or where there is no room or nothing to take, nothing is: callers refuse first.
-- Assumes nothing.
use Rattle.std.specs.Prelude.{ℕ, ◌+◌, ◌-◌, Bool, false, ◌||◌, List, length, get_or, set, ltb}
use Rattle.vocabulary.specs.Choice.{pick}
use Rattle.vocabulary.specs.NChars.{read_as}
use Rattle.store.specs.Ring.{around, waiting, bad_store, full}
use Rattle.store.specs.Packets.{through_end, holds_end}
use Rattle.store.specs.declared.Store.{Store}
use Rattle.store.specs.declared.Found.{Found}

unfoldable pub fresh_store : Store
fresh_store = record { front = 0; len = 0 }

abbrev pub refuses_put : ℕ → Store → Bool
refuses_put size s = bad_store size s || full size s

-- one N-Char behind those that wait
unfoldable pub put_store : ℕ → Store → ℕ → Store
put_store size s n = pick (refuses_put size s) s (record { front = s.front; len = s.len + 1 })

unfoldable pub put_places : List ℕ → Store → ℕ → List ℕ
put_places places s n =
    pick (refuses_put (length places) s) places (set places (around (length places) (s.front + s.len)) n)

-- the N-Char at the front, as it is read
abbrev pub front_of : List ℕ → Store → ℕ
front_of places s = read_as (get_or places s.front 0)

-- Without the first `count`: they leave from the front, and their places keep what they hold.
unfoldable pub dropped : ℕ → Store → ℕ → Store
dropped size s count =
    pick (bad_store size s || ltb s.len count) s
    (record { front = around size (s.front + count); len = s.len - count })

-- without the first N-Char of these places
abbrev pub without_first : List ℕ → Store → Store
without_first places s = dropped (length places) s 1

-- without the N-Chars of these places that were found
abbrev pub without_found : List ℕ → Store → Found → Store
without_found places s f = dropped (length places) s f.count

-- how many stand from the front through the first end, and whether there is one
unfoldable pub found_in : List ℕ → Found
found_in ns = record { count = through_end ns; ended = holds_end ns }

unfoldable pub found : List ℕ → Store → Found
found places s = pick (bad_store (length places) s) (record { count = 0; ended = false }) (found_in (waiting places s))
