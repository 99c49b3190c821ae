-- To ask of each number of a range in order is to ask whether one of them passes.
-- Assumes nothing.
use Rattle.std.proofs.Common.{◌≡◌, ℕ, zero, suc, ◌+◌, Bool, ◌||◌, refl, ap}
use Rattle.std.specs.List.{list_any, range_with_len}
use Rattle.router_ports.specs.Each.{any}

pub any_in_order : (f : ℕ → Bool) (from count : ℕ) → list_any f (range_with_len from count) ≡ any f from count
unfolding any
any_in_order f from zero = refl
any_in_order f from (suc count) = ap (λ (rest : Bool). f from || rest) (any_in_order f (from + 1) count)
