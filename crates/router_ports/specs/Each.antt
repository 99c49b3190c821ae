-- Something done, or asked, for each number of a range in order: "each in port order".
-- Assumes nothing.
use Rattle.std.specs.Prelude.{ℕ, zero, suc, ◌+◌, Bool, false, ◌||◌}

-- done for `count` numbers from `from` on
unfoldable pub each : {S : Type 0} → (S → ℕ → S) → ℕ → ℕ → S → S
each f from zero s = s
each f from (suc count) s = each f (from + 1) count (f s from)

-- whether one of `count` numbers from `from` on passes
unfoldable pub any : (ℕ → Bool) → ℕ → ℕ → Bool
any f from zero = false
any f from (suc count) = f from || any f (from + 1) count
