-- A set as a number: halving it passes over its lowest port, so bit i is the i-th port.
-- Assumes nothing.
use mathlib.Core.Path.{◌≡◌, refl, sym, ap, ◌∙◌}
use mathlib.Core.Bool.{Bool, true, false}
use Prim.Native.Nat.{ℕ, zero, suc, ◌+◌, ◌-◌, ◌*◌, ◌/◌, ◌%◌, ◌^◌, ◌≤◌, ◌<◌}
use native.Mathlib.Nat.{add-zero, not-suc-le-zero, le_of_suc-le-suc}
use native.Mathlib.Nat.{pow-suc, pow-succ', pow-le-pow_right, div-div-eq-div-mul}
use native.Mathlib.Omega.{arith}
use lib.Dec.{eqb}
use borrow.Author.Tests.{eq-eqb, ne_eqb}
use Rattle.router_ports.specs.Ports.{wants}
use Rattle.router.specs.Held.{behind, set_of}

behind_le : (set : ℕ) (member : Bool) → behind set member ≤ 1 + 2 * set
behind_le set true = omega arith
behind_le set false = omega arith

set_below : (member : ℕ → Bool) (from count : ℕ) → set_of member from count < 2 ^ count
unfolding set_of
set_below member from zero = omega arith
set_below member from (suc count) =
    let rest = set_of member (from + 1) count in
    omega (arith, set_below member (from + 1) count, behind_le rest (member from), pow-suc 2 count)

pub set_small : (member : ℕ → Bool) (from count : ℕ) → count ≤ 11 → set_of member from count < 2048
set_small member from count h =
    let most : 2 ^ count ≤ 2 ^ 11 = pow-le-pow_right (omega arith) h in
    omega (arith, set_below member from count)

lowest : (set : ℕ) (member : Bool) → wants (behind set member) 0 ≡ member
lowest set true = eq-eqb ((1 + 2 * set) / 1 % 2) 1 (omega arith)
lowest set false = ne_eqb (2 * set / 1 % 2) 1 (omega arith)

halved : (set : ℕ) (member : Bool) → behind set member / 2 ≡ set
halved set true = omega arith
halved set false = omega arith

higher : (set i : ℕ) (member : Bool) → wants (behind set member) (suc i) ≡ wants set i
higher set i member =
    ap (λ (n : ℕ). eqb (n % 2) 1)
    (ap (λ (n : ℕ). behind set member / n) (pow-succ' 2 i)
    ∙ sym (div-div-eq-div-mul (behind set member) 2 (2 ^ i))
    ∙ ap (λ (n : ℕ). n / 2 ^ i) (halved set member))

-- the empty set
pub empty_bit : (i : ℕ) → wants 0 i ≡ false
empty_bit zero = refl
empty_bit (suc i) = higher 0 i false ∙ empty_bit i

pub set_bit : (member : ℕ → Bool) (from count i : ℕ) → i < count → wants (set_of member from count) i ≡ member (from + i)
unfolding set_of
set_bit member from zero i h = absurd (not-suc-le-zero h)
set_bit member from (suc count) zero h =
    lowest (set_of member (from + 1) count) (member from) ∙ ap member (sym (add-zero from))
set_bit member from (suc count) (suc i) h =
    let same : from + 1 + i ≡ from + suc i = omega arith in
    higher (set_of member (from + 1) count) i (member from)
    ∙ set_bit member (from + 1) count i (le_of_suc-le-suc h)
    ∙ ap member same

-- a set without members is empty
pub no_members : (member : ℕ → Bool) → ((i : ℕ) → i < 11 → member i ≡ false) → (from count : ℕ) → from + count ≤ 11 →
    set_of member from count ≡ 0
unfolding set_of
no_members member none from zero h = refl
no_members member none from (suc count) h =
    rw (no_members member none (from + 1) count (omega arith), none from (omega arith)) refl

-- the loop's step: from the last port down
pub set_next : (member : ℕ → Bool) (i : ℕ) → 0 < i → i ≤ 11 →
    set_of member (i - 1) (11 - (i - 1)) ≡ behind (set_of member i (11 - i)) (member (i - 1))
unfolding set_of
set_next member i h b =
    let more : 11 - (i - 1) ≡ suc (11 - i) = omega arith in
    let back : i - 1 + 1 ≡ i = omega arith in
    ap (set_of member (i - 1)) more ∙ ap (λ (n : ℕ). behind (set_of member n (11 - i)) (member (i - 1))) back
