-- A call that is refused is refused by its first test that applies; one that is not passed every test.
-- Assumes nothing.
use mathlib.Core.Path.{◌≡◌, refl, ap, ◌∙◌}
use mathlib.Core.Bool.{Bool, true, false, not, ◌||◌}
use mathlib.Core.List.{List}
use Prim.Native.Nat.{ℕ, suc, ◌<◌, ◌^◌}
use native.Mathlib.Nat.{mod-eq_of_lt}
use native.Mathlib.Omega.{arith}
use borrow.Author.Tests.{ltb-false}
use Rattle.vocabulary.specs.Choice.{pick}
use Rattle.vocabulary.specs.declared.Refusal.{Refusal}
use Rattle.vocabulary.specs.Refusals.{number}
use Rattle.vocabulary.proofs.RefusalLaws.{not_none}
use Rattle.store.specs.Ring.{bad_store}
use Rattle.words.specs.Words.{narrow}
use Rattle.router_ports.specs.Each.{any}
use Rattle.router_ports.specs.Ports.{store_at}
use Rattle.router_ports.specs.Places.{Machine, machine, size_in, bad_area}
use Rattle.router_ports.specs.Refusals.{bad_ports, bad_stores}
use Rattle.router_ports.specs.Records.{Router}
use Rattle.router_ports.specs.RouterWords.{router_of, is_router}
use Rattle.router_ports.specs.StateWords.{bad_state}
use Rattle.router_ports.proofs.FitsProof.{size_small}
use Rattle.router.specs.RouterCalls.{state_first}
use Rattle.router.specs.Refusals.{lent_refusal, no_port, held_refusal}

pub passed : (b : Bool) (k later : ℕ) → pick b (suc k) later ≡ 0 → (b ≡ false) × (later ≡ 0)
passed true k later h = absurd (omega arith)
passed false k later h = (refl, h)

pub record Accepted (x : Machine) (rest : ℕ) : Type 0 where
  pub ports : bad_ports x.router ≡ false
  pub area : bad_area x.area ≡ false
  pub stores : bad_stores x.router x.area ≡ false
  pub later : rest ≡ 0

pub lent_accepts : (x : Machine) (later : ℕ) → lent_refusal x later ≡ 0 → Accepted x later
lent_accepts x later h =
    let first = passed (bad_ports x.router) 0 _ h in
    let second = passed (bad_area x.area) 1 _ first.1 in
    let third = passed (bad_stores x.router x.area) 0 later second.1 in
    record { ports = first.0; area = second.0; stores = third.0; later = third.1 }

-- 3 PORT behind the tests of what is lent
pub port_below : (x : Machine) (port later : ℕ) → lent_refusal x (pick (no_port port) 3 later) ≡ 0 → port < 11
port_below x port later h =
    let below = ltb-false 10 port (passed (no_port port) 2 _ (lent_accepts x _ h).later).0 in
    omega arith

pub held_accepts : (s : Router) (port : ℕ) → held_refusal s port ≡ 0 → port < 11
held_accepts s port h =
    let below = ltb-false 10 port (passed (no_port port) 2 0 (passed (bad_ports s) 0 _ h).1).0 in
    omega arith

-- words that keep no router are refused as those of one that is refused as STATE
pub state_first_lem : (words : List ℕ) (later : ℕ) →
    pick (bad_state words) 1 later ≡ state_first words (pick (bad_ports (router_of words)) 1 later)
state_first_lem words later = go (is_router words)
  where
    go : (is : Bool) → pick (not is || bad_ports (router_of words)) 1 later ≡ pick is (pick (bad_ports (router_of words)) 1 later) 1
    go true = refl
    go false = refl

-- a call that is not refused is lent the words of a router
pub router_first : (is : Bool) (later : ℕ) → 0 ≡ pick is later 1 → (is ≡ true) × (later ≡ 0)
router_first true later e = (refl, omega (arith, e))
router_first false later e = absurd (omega (arith, e))

-- what is refused for what it is lent is refused for that whatever the later tests are
pub lent_first : (words : List ℕ) (x : Machine) (r : Refusal) (later : ℕ) →
    number r ≡ state_first words (lent_refusal x 0) → number r ≡ state_first words (lent_refusal x later)
lent_first words x r later = go (is_router words) (bad_ports x.router) (bad_area x.area) (bad_stores x.router x.area)
  where
    go : (is ports area stores : Bool) →
        number r ≡ pick is (pick ports 1 (pick area 2 (pick stores 1 0))) 1 →
        number r ≡ pick is (pick ports 1 (pick area 2 (pick stores 1 later))) 1
    go false ports area stores e = e
    go true true area stores e = e
    go true false true stores e = e
    go true false false true e = e
    go true false false false e = absurd (not_none r e)

-- the size of a store is a word where the area is one that STORE allows
pub sized_stores : (s : Router) (area : List ℕ) (size : ℕ) → size ≡ narrow (size_in area) → bad_area area ≡ false →
    any (λ (k : ℕ). bad_store size (store_at s k)) 0 22 ≡ bad_stores s area
unfolding bad_stores
sized_stores s area size e good =
    let small : size_in area < 2 ^ 32 = omega (arith, size_small area good) in
    ap (λ (n : ℕ). any (λ (k : ℕ). bad_store n (store_at s k)) 0 22) (e ∙ mod-eq_of_lt small)

-- what is left of the tests once the first two have passed
pub lent_last : (words area : List ℕ) (later : ℕ) → bad_state words ≡ false → bad_area area ≡ false →
    state_first words (lent_refusal (machine (router_of words) area) later) ≡ pick (bad_stores (router_of words) area) 1 later
lent_last words area later state good = rw good (go (is_router words) (bad_ports (router_of words)) state)
  where
    go : (is ports : Bool) → not is || ports ≡ false →
        pick is (pick ports 1 (pick (bad_stores (router_of words) area) 1 later)) 1 ≡ pick (bad_stores (router_of words) area) 1 later
    go true true e = cc
    go true false e = refl
    go false ports e = cc
