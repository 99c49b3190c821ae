-- A range of numbers, taken from its first on: what the loops over ports and stores follow.
-- Assumes nothing.
use mathlib.Core.Path.{◌≡◌, refl, ap, ◌∙◌}
use mathlib.Core.Bool.{Bool, true, false, ◌||◌}
use Prim.Native.Nat.{ℕ, zero, suc, ◌+◌, ◌-◌, ◌≤◌, ◌<◌}
use native.Mathlib.Decide.{ℕ_discrete}
use native.Mathlib.Omega.{arith}
use Rattle.store.proofs.OrLaws.{or_left, or_right}
use Rattle.router_ports.specs.Each.{each, any}

pub or_true : (b : Bool) → b || true ≡ true
or_true true = refl
or_true false = refl

pub or_false : (b : Bool) → b || false ≡ b
or_false true = refl
or_false false = refl

pub or_joins : (a b c : Bool) → a || (b || c) ≡ (a || b) || c
or_joins true b c = refl
or_joins false b c = refl

some_left : (i n : ℕ) → i < n → n - i ≡ suc (n - (i + 1))
some_left i n h = omega arith

none_left : (i n : ℕ) → n ≤ i → n - i ≡ 0
none_left i n h = omega arith

module _ {S : Type 0} (f : S → ℕ → S) (i n : ℕ) (s : S) where
  pub each_next : i < n → each f i (n - i) s ≡ each f (i + 1) (n - (i + 1)) (f s i)
  unfolding each
  each_next h = ap (λ (k : ℕ). each f i k s) (some_left i n h)

  pub each_done : n ≤ i → each f i (n - i) s ≡ s
  unfolding each
  each_done h = ap (λ (k : ℕ). each f i k s) (none_left i n h)

module _ (f : ℕ → Bool) (i n : ℕ) where
  pub any_next : i < n → any f i (n - i) ≡ f i || any f (i + 1) (n - (i + 1))
  unfolding any
  any_next h = ap (any f i) (some_left i n h)

  pub any_done : n ≤ i → any f i (n - i) ≡ false
  unfolding any
  any_done h = ap (any f i) (none_left i n h)

-- where none of a range passes, each of it does not
pub none_at : (f : ℕ → Bool) (from count k : ℕ) → any f from count ≡ false → from ≤ k → k < from + count → f k ≡ false
unfolding any
none_at f from zero k e h l = absurd (omega (arith, h, l))
none_at f from (suc count) k e h l = go (ℕ_discrete k from) (none_at f (from + 1) count k rest)
  where
    rest : any f (from + 1) count ≡ false
    rest = or_right (f from) (any f (from + 1) count) e

    go : Dec (k ≡ from) → (from + 1 ≤ k → k < from + 1 + count → f k ≡ false) → f k ≡ false
    go (yes s) later = ap f s ∙ or_left (f from) (any f (from + 1) count) e
    go (no d) later = later (omega (arith, h, d)) (omega (arith, l))
