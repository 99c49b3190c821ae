-- A state and its area stand for the paper's router: the same modes and outputs, and in each store the N-Chars that wait.
-- Assumes nothing.
use Rattle.std.specs.Prelude.{◌≡◌, List, ℕ}
use Rattle.store.specs.Ring.{waiting}
use Rattle.router_ports.specs.Ports.{mode_at, output_at, store_at}
use Rattle.router_ports.specs.Places.{Machine, places_at, size_in}
use Rattle.router_rounds.specs.Acts.{Tally}
use Rattle.router_rounds.specs.Rounds.{begun, rounds}
use Rattle.router_rounds.specs.Exact.{exact}
use Rattle.router_rounds.specs.Model.{Model, model}
use Rattle.router.specs.Reached.{Reached}

-- the N-Chars that wait in a store
abbrev pub held_at : Machine → ℕ → List ℕ
held_at x k = waiting (places_at x.area k) (store_at x.router k)

-- the lists that a state and area stand for
abbrev pub lists_of : Machine → Model
lists_of x = record { modes = mode_at x.router; outputs = output_at x.router; held = held_at x }

pub record Tied (x : Machine) (y : Model) : Type 0 where
  pub modes : (i : ℕ) → mode_at x.router i ≡ y.modes i
  pub outputs : (o : ℕ) → output_at x.router o ≡ y.outputs o
  pub held : (k : ℕ) → held_at x k ≡ y.held k

-- the same counts, and ports that are tied
pub record SameRun (t : Tally Machine) (u : Tally Model) : Type 0 where
  pub now : Tied t.now u.now
  pub rounds : t.rounds ≡ u.rounds
  pub moved : t.moved ≡ u.moved
  pub errors : t.errors ≡ u.errors

-- "each round is fixed from the state before it": a run over rings is the run over the lists that they stand for
abbrev pub RingsAreLists : Type 0
RingsAreLists =
    (x : Machine) → Reached x → (table : List ℕ) (limit : ℕ) →
    SameRun (rounds exact table limit (begun x)) (rounds (model (size_in x.area)) table limit (begun (lists_of x)))
