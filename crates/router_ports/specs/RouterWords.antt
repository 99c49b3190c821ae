-- What the words of a router mean, and how they are written.
-- Assumes nothing.
use Rattle.std.specs.Prelude.{ℕ, zero, suc, ◌+◌, ◌-◌, ◌*◌, ◌/◌, ◌%◌, ◌^◌, ◌<◌, ◌≡◌, Bool, true, false, List, [], ◌∷◌, length, eqb, ltb, Option, None, Some}
use Rattle.std.proofs.lemmas.List.Edits.{sets}
use Rattle.vocabulary.specs.Choice.{pick}
use Rattle.words.specs.Words.{word_at, truth_word, truth, narrow, same}
use Rattle.store.specs.StoreWords.{store_words, store_of}
use Rattle.store.specs.Changes.{without_first, put_store}
use Rattle.store.specs.declared.Store.{Store}
use Rattle.router_ports.specs.Places.{size_in, places_at, bad_area}
use Rattle.router_ports.specs.Refusals.{bad_ports, bad_stores}
use Rattle.router_ports.specs.Ports.{mode_at, output_at, store_at}
use Rattle.router_ports.specs.Layout.{PORTS, STORES, WORDS, outputs_from, stores_from}
use Rattle.router_ports.specs.declared.Wanted.{Wanted}
use Rattle.router_ports.specs.declared.Mode.{Mode}
use Rattle.router_ports.specs.declared.Mode.TheVariants.{Idle, Waiting, Routed, Spilling}
use Rattle.router_ports.specs.Records.{Input}
use Rattle.router_ports.specs.declared.Output.{Output}
use Rattle.router_ports.specs.Records.{Router}

-- what is said of `count` numbers from `from` on, in order
unfoldable pub listed : {A : Type 0} → (ℕ → A) → ℕ → ℕ → List A
listed f from zero = []
listed f from (suc count) = f from ∷ listed f (from + 1) count

-- the row of a port, of rows of three words that begin `from`
abbrev pub row_in : ℕ → List ℕ → ℕ → Option (List ℕ)
row_in from words k =
    pick (ltb k PORTS)
    (Some (word_at words (from + 3 * k) ∷ word_at words (from + 3 * k + 1) ∷ word_at words (from + 3 * k + 2) ∷ []))
    None

-- saved: the value of a waiting input is its set of ports, of a routed one its output
abbrev pub mode_words : Mode → List ℕ
mode_words Idle = 0 ∷ 0 ∷ 0 ∷ []
mode_words (Waiting w) = 1 ∷ w.ports ∷ truth_word w.high ∷ []
mode_words (Routed o) = 2 ∷ narrow o ∷ 0 ∷ []
mode_words Spilling = 3 ∷ 0 ∷ 0 ∷ []

abbrev pub output_words : Option ℕ → ℕ → List ℕ
output_words None last = 0 ∷ 0 ∷ narrow last ∷ []
output_words (Some i) last = 1 ∷ narrow i ∷ narrow last ∷ []

abbrev pub router_word : Router → ℕ → ℕ
router_word r k =
    pick (ltb k outputs_from) (word_at (mode_words (mode_at r (k / 3))) (k % 3))
    (pick (ltb k stores_from)
    (word_at (output_words (output_at r ((k - outputs_from) / 3)).owner (output_at r ((k - outputs_from) / 3)).last) (k % 3))
    (word_at (store_words (store_at r ((k - stores_from) / 2))) (k % 2)))

unfoldable pub router_words : Router → List ℕ
router_words r = listed (router_word r) 0 WORDS

-- loaded: a number that no mode or owner has loads as 0 does, and is saved otherwise
unfoldable pub wanted_of : ℕ → ℕ → Wanted
wanted_of value high = record { ports = value % 65536; high = truth high }

unfoldable pub mode_of : ℕ → ℕ → ℕ → Mode
mode_of n value high =
    pick (eqb n 1) (Waiting (wanted_of value high)) (pick (eqb n 2) (Routed value) (pick (eqb n 3) Spilling Idle))

abbrev pub owner_of : ℕ → ℕ → Option ℕ
owner_of n input = pick (eqb n 1) (Some input) None

unfoldable pub input_in : List ℕ → ℕ → Input
input_in words p =
    record { mode = mode_of (word_at words (3 * p)) (word_at words (3 * p + 1)) (word_at words (3 * p + 2)) }

unfoldable pub output_in : List ℕ → ℕ → Output
output_in words p =
    record { owner = owner_of (word_at words (3 * p + outputs_from)) (word_at words (3 * p + outputs_from + 1)); last = word_at words (3 * p + outputs_from + 2) }

abbrev pub store_in : List ℕ → ℕ → Store
store_in words k = store_of (word_at words (2 * k + stores_from)) (word_at words (2 * k + stores_from + 1))

unfoldable pub router_of : List ℕ → Router
router_of words =
    record {
      inputs = listed (input_in words) 0 PORTS;
      outputs = listed (output_in words) 0 PORTS;
      stores = listed (store_in words) 0 STORES;
    }

-- words that a router is saved as
abbrev pub is_router : List ℕ → Bool
is_router words = same words (router_words (router_of words))

-- in place: the words of one input, output or store are written, and no other; past the last, none
unfoldable pub with_mode_in : List ℕ → ℕ → Mode → List ℕ
with_mode_in words i m = pick (ltb i PORTS) (sets words (3 * i) (mode_words m)) words

unfoldable pub with_output_in : List ℕ → ℕ → Output → List ℕ
with_output_in words o out = pick (ltb o PORTS) (sets words (3 * o + outputs_from) (output_words out.owner out.last)) words

unfoldable pub with_store_in : List ℕ → ℕ → Store → List ℕ
with_store_in words k st = pick (ltb k STORES) (sets words (2 * k + stores_from) (store_words st)) words

-- a store's front N-Char taken, an N-Char put behind those of a store
unfoldable pub without_front_in : List ℕ → List ℕ → ℕ → List ℕ
without_front_in words area k = with_store_in words k (without_first (places_at area k) (store_at (router_of words) k))

unfoldable pub with_behind_in : List ℕ → List ℕ → ℕ → ℕ → List ℕ
with_behind_in words area k n = with_store_in words k (put_store (size_in area) (store_at (router_of words) k) n)

-- Numbers that fit a word, a set of ports 16 bits, and as many inputs, outputs and stores as a router has.
abbrev pub FitsMode : Mode → Type 0
FitsMode Idle = Unit {0}
FitsMode (Waiting w) = w.ports < 65536
FitsMode (Routed o) = o < 2 ^ 32
FitsMode Spilling = Unit {0}

abbrev pub FitsOwner : Option ℕ → Type 0
FitsOwner None = Unit {0}
FitsOwner (Some i) = i < 2 ^ 32

pub record FitsRouter (r : Router) : Type 0 where
  pub inputs : length r.inputs ≡ 11
  pub outputs : length r.outputs ≡ 11
  pub stores : length r.stores ≡ 22
  pub modes : (p : ℕ) → p < 11 → FitsMode (mode_at r p)
  pub owners : (p : ℕ) → p < 11 → FitsOwner (output_at r p).owner
  pub lasts : (p : ℕ) → p < 11 → (output_at r p).last < 2 ^ 32
  pub fronts : (k : ℕ) → k < 22 → (store_at r k).front < 2 ^ 32
  pub lens : (k : ℕ) → k < 22 → (store_at r k).len < 2 ^ 32

pub record KeepsRouters : Type 0 where
  -- loading what was saved gives it back, so what was saved is a router
  pub back : (r : Router) → FitsRouter r → router_of (router_words r) ≡ r
  pub is_router_lem : (r : Router) → FitsRouter r → is_router (router_words r) ≡ true
  -- every router that put, take and run do not refuse as STATE or STORE fits
  pub fits : (r : Router) (area : List ℕ) → length r.inputs ≡ 11 → length r.outputs ≡ 11 → length r.stores ≡ 22 →
      bad_ports r ≡ false → bad_area area ≡ false → bad_stores r area ≡ false → FitsRouter r
