-- The lent area: 22 equal stores one behind the other, those of the inputs first.
-- Assumes nothing.
use Rattle.std.specs.Prelude.{ℕ, ◌*◌, ◌/◌, ◌%◌, Bool, true, not, ◌||◌, List, ◌++◌, length, take, drop, eqb, ltb}
use Rattle.vocabulary.specs.Choice.{pick}
use Rattle.store.specs.Ring.{full, empty}
use Rattle.store.specs.Changes.{put_store, put_places, front_of, without_first}
use Rattle.store.specs.declared.Store.{Store}
use Rattle.router_ports.specs.Ports.{store_at, with_store}
use Rattle.router_ports.specs.Records.{Router}

-- the router's state, and what its lent area holds
pub record Machine : Type 0 where
  pub router : Router
  pub area : List ℕ

abbrev pub machine : Router → List ℕ → Machine
machine s area = record { router = s; area = area }

abbrev pub size_in : List ℕ → ℕ
size_in area = length area / 22

-- 2 STORE: "router area not 22 equal stores of 9 to 1,024"
abbrev pub bad_area : List ℕ → Bool
bad_area area = not (eqb (length area % 22) 0) || ltb (size_in area) 9 || ltb 1024 (size_in area)

abbrev pub places_at : List ℕ → ℕ → List ℕ
places_at area k = take (size_in area) (drop (k * size_in area) area)

abbrev pub with_places : List ℕ → ℕ → List ℕ → List ℕ
with_places area k places = take (k * size_in area) area ++ (places ++ drop (size_in area) (drop (k * size_in area) area))

abbrev pub empty_at : Machine → ℕ → Bool
empty_at x k = empty (store_at x.router k)

-- a store past the last accepts nothing
abbrev pub full_at : Machine → ℕ → Bool
full_at x k = pick (ltb k 22) (full (size_in x.area) (store_at x.router k)) true

abbrev pub front_at : Machine → ℕ → ℕ
front_at x k = pick (ltb k 22) (front_of (places_at x.area k) (store_at x.router k)) 0

unfoldable pub without_front : Machine → ℕ → Machine
without_front x k =
    machine (with_store x.router k (without_first (places_at x.area k) (store_at x.router k))) x.area

-- the area with an N-Char behind those of store k, whose record this is
abbrev pub put_at : List ℕ → ℕ → Store → ℕ → List ℕ
put_at area k st n = pick (ltb k 22) (with_places area k (put_places (places_at area k) st n)) area

unfoldable pub with_behind : Machine → ℕ → ℕ → Machine
with_behind x k n =
    machine (with_store x.router k (put_store (size_in x.area) (store_at x.router k) n))
    (put_at x.area k (store_at x.router k) n)
