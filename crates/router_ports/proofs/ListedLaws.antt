-- What is listed of a range of numbers: how many, and which stands where.
-- Assumes nothing.
use Prim.Native.Nat.{ℕ, zero, suc, ◌+◌, ◌<◌}
use mathlib.Core.Path.{◌≡◌, refl, ap, ◌∙◌}
use native.Mathlib.Omega.{arith}
use lib.ListN.{length, get_or}
use Rattle.router_ports.specs.RouterWords.{listed}

module _ {A : Type 0} (f : ℕ → A) where
  pub length_listed : (from count : ℕ) → length (listed f from count) ≡ count
  unfolding listed
  length_listed from zero = refl
  length_listed from (suc count) = ap suc (length_listed (from + 1) count)

  pub get_or_listed : (from count i : ℕ) (d : A) → i < count → get_or (listed f from count) i d ≡ f (from + i)
  unfolding listed
  get_or_listed from zero i d h = absurd (omega (arith, h))
  get_or_listed from (suc count) zero d h = ap f (let e : from ≡ from + 0 = omega arith in e)
  get_or_listed from (suc count) (suc i) d h =
      get_or_listed (from + 1) count i d (omega (arith, h)) ∙ ap f (let e : from + 1 + i ≡ from + suc i = omega arith in e)
