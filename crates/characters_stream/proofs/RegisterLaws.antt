-- The eight places of a decoder as a list of eight bits: a new bit comes in behind them, and the first goes.
-- Assumes nothing.
use mathlib.Core.Path.{◌≡◌}
use mathlib.Core.Bool.{Bool, true, false}
use mathlib.Core.List.{List, [], ◌∷◌, ◌++◌, append_assoc}
use Prim.Native.Nat.{ℕ, zero, suc, ◌+◌}
use native.Mathlib.Omega.{arith}
use lib.ListN.{length}
use Rattle.characters.specs.Bits.{number}
use Rattle.characters.specs.Decoder.{shifted}
use Rattle.characters.proofs.BitLaws.{halved, number_append}

pub shifted_number : (o : Bool) (xs : List Bool) (b : Bool) → length xs ≡ 7 →
    shifted (number (o ∷ xs)) b ≡ number (xs ++ b ∷ [])
shifted_number o xs b seven = rw (halved o (number xs), number_append xs (b ∷ []), seven) (omega arith)

-- the places of data bits: the mark, behind it the bits that have come, and before it a zero for each that is still to come
abbrev zeros : ℕ → List Bool
zeros zero = []
zeros (suc k) = false ∷ zeros k

abbrev pub marked : ℕ → List Bool → List Bool
marked k ds = zeros k ++ true ∷ ds

pub marked_length : (k : ℕ) (ds : List Bool) → length (marked k ds) ≡ suc (k + length ds)
marked_length zero ds = omega arith
marked_length (suc k) ds = omega (arith, marked_length k ds)

pub marked_snoc : (k : ℕ) (ds : List Bool) (b : Bool) → marked k ds ++ b ∷ [] ≡ marked k (ds ++ b ∷ [])
marked_snoc k ds b = append_assoc (zeros k) (true ∷ ds) (b ∷ [])

-- the mark is always there
pub marked_some : (k : ℕ) (ds : List Bool) → number (marked k ds) ≡ 0 → ⊥
marked_some zero ds e = omega arith
marked_some (suc k) ds e = marked_some k ds (omega arith)
