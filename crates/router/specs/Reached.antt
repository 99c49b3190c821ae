-- What calls on a fresh router and an area of a size that STORE allows leave, whatever the calls; and that no later call
-- refuses it for what it was handed: "a call tests what it is lent".
-- Assumes nothing.
use Rattle.std.specs.Prelude.{◌≡◌, true, false, List, ℕ}
use Rattle.router_ports.specs.Ports.{fresh_router}
use Rattle.router_ports.specs.Places.{Machine, machine, bad_area}
use Rattle.router_ports.specs.Refusals.{bad_ports, bad_stores}
use Rattle.router_rounds.specs.Acts.{Tally}
use Rattle.router_rounds.specs.Rounds.{round}
use Rattle.router_rounds.specs.Exact.{exact}
use Rattle.router.specs.Calls.{puts, takes, runs}

pub data Reached : Machine → Type 0 where
  fresh : (area : List ℕ) → bad_area area ≡ false → Reached (machine fresh_router area)
  put : {x : Machine} (port n : ℕ) → Reached x → Reached (puts x port n).now
  take : {x : Machine} (port : ℕ) → Reached x → Reached (takes x port).now
  run : {x : Machine} (table : List ℕ) (limit : ℕ) → Reached x → Reached (runs x table limit).now

-- neither 1 STATE, with or without a size, nor 2 STORE
pub record Unspoiled (x : Machine) : Type 0 where
  pub ports : bad_ports x.router ≡ false
  pub stores : bad_stores x.router x.area ≡ false
  pub area : bad_area x.area ≡ false

abbrev pub NeverSpoiled : Type 0
NeverSpoiled = (x : Machine) → Reached x → Unspoiled x

-- The mark by which a run stops says exactly whether the round changed the whole state and area: off, and they are the same;
-- on, and they are not. Every round of every run starts from what calls can leave.
pub record MarkSays (table : List ℕ) (t : Tally Machine) : Type 0 where
  pub off : (round exact table t).changed ≡ false → (round exact table t).now ≡ t.now
  pub on : (round exact table t).changed ≡ true → (round exact table t).now ≡ t.now → ⊥

abbrev pub MarkIsExact : Type 0
MarkIsExact = (table : List ℕ) (t : Tally Machine) → Reached t.now → MarkSays table t
