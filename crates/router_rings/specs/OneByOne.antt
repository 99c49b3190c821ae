-- 01, The router: "A run takes up to 10,000 rounds, stops after the first that changes nothing". A run of n + 1 rounds is a run of
-- one round and then, unless that one changed nothing, a run of n from where it left; the counts add up.
-- Assumes nothing.
use Rattle.std.specs.Prelude.{◌≡◌, List, ℕ, ◌+◌, ◌<◌}
use Rattle.router_ports.specs.Places.{Machine}
use Rattle.router.specs.Calls.{Run, runs}
use Rattle.router.specs.Reached.{Reached}

-- two runs, the second from where the first left
unfoldable pub added : Run → Run → Run
added a b =
    record {
      refusal = b.refusal;
      now = b.now;
      rounds = a.rounds + b.rounds;
      moved = a.moved + b.moved;
      errors = a.errors + b.errors;
    }

pub record OneByOne (x : Machine) (table : List ℕ) (n : ℕ) : Type 0 where
  pub stops : (runs x table 1).now ≡ x → runs x table (n + 1) ≡ runs x table 1
  pub goes_on : ((runs x table 1).now ≡ x → ⊥) →
      runs x table (n + 1) ≡ added (runs x table 1) (runs (runs x table 1).now table n)

abbrev pub RunsOneByOne : Type 0
RunsOneByOne = (x : Machine) → Reached x → (table : List ℕ) (n : ℕ) → n < 10000 → OneByOne x table n
