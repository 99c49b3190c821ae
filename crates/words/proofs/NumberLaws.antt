-- A number that fits its bits, and a truth, come back from their words.
-- Assumes nothing.
use Prim.Native.Nat.{ℕ, ◌^◌, ◌<◌}
use mathlib.Core.Path.{◌≡◌, refl}
use mathlib.Core.Bool.{Bool, true, false}
use native.Mathlib.Omega.{arith}
use Rattle.words.specs.Words.{truth, truth_word, byte, narrow}

pub byte_back : (n : ℕ) → n < 256 → byte n ≡ n
byte_back n h = omega arith

pub narrow_back : (n : ℕ) → n < 2 ^ 32 → narrow n ≡ n
narrow_back n h = omega arith

pub truth_back : (b : Bool) → truth (truth_word b) ≡ b
truth_back true = refl
truth_back false = refl
