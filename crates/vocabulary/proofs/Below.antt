-- A fact of every number below a bound, by one test that antt computes over all of them.
-- Assumes nothing.
use mathlib.Core.Path.{◌≡◌, refl, sym, subst}
use mathlib.Core.Bool.{Bool, true, false}
use mathlib.Core.List.{List, [], ◌∷◌}
use Prim.Native.Nat.{ℕ, zero, suc, ◌<◌}
use native.Mathlib.Nat.{not-suc-le-zero, le_of_suc-le-suc}
use native.Mathlib.Omega.{arith}
use native.Mathlib.Decide.{ℕ_discrete}
use lib.Dec.{T}
use lib.ListN.{length, get_or}

abbrev pub both : Bool → Bool → Bool
both true b = b
both false b = false

pub both_left : (a b : Bool) → T (both a b) → T a
both_left true b t = tt
both_left false b t = t

pub both_right : (a b : Bool) → T (both a b) → T b
both_right true b t = t
both_right false b t = absurd t

-- the test passes at every number below n
abbrev pub every : (ℕ → Bool) → ℕ → Bool
every f zero = true
every f (suc n) = both (f n) (every f n)

pub below : (f : ℕ → Bool) (n : ℕ) → T (every f n) → (k : ℕ) → k < n → T (f k)
below f zero t k h = absurd (not-suc-le-zero h)
below f (suc n) t k h = at (below f n (both_right (f n) (every f n) t) k) (ℕ_discrete k n)
  where
    at : (k < n → T (f k)) → Dec (k ≡ n) → T (f k)
    at lower (yes e) = subst (λ (m : ℕ). T (f m)) (sym e) (both_left (f n) (every f n) t)
    at lower (no d) = lower (omega (arith, d))

-- two Booleans that agree, as a test
abbrev pub same : Bool → Bool → Bool
same true b = b
same false true = false
same false false = true

pub same_eq : (a b : Bool) → T (same a b) → a ≡ b
same_eq true true t = refl
same_eq true false t = absurd t
same_eq false true t = absurd t
same_eq false false t = refl

-- The same for the members of a list, of any type.
abbrev pub each : {A : Type 0} → (A → Bool) → List A → Bool
each f [] = true
each f (x ∷ xs) = both (f x) (each f xs)

pub each_at : {A : Type 0} (f : A → Bool) (xs : List A) (d : A) → T (each f xs) → (k : ℕ) → k < length xs → T (f (get_or xs k d))
each_at f [] d t k h = absurd (not-suc-le-zero h)
each_at f (x ∷ xs) d t zero h = both_left (f x) (each f xs) t
each_at f (x ∷ xs) d t (suc k) h = each_at f xs d (both_right (f x) (each f xs) t) k (le_of_suc-le-suc h)
