-- The 22 parts of the area lie within it, one behind the other: each ends at or before its end, and is as long as the others.
-- Assumes nothing.
use mathlib.Core.Path.{◌≡◌}
use mathlib.Core.List.{List}
use Prim.Native.Nat.{ℕ, ◌+◌, ◌*◌, ◌-◌, ◌/◌, ◌≤◌, ◌<◌}
use native.Mathlib.Nat.{mul-le-mul_right}
use native.Mathlib.Omega.{arith}
use lib.ListN.{length, drop, length-drop}
use lib.Seq.{length-take-le}
use Rattle.router_ports.specs.Places.{size_in, places_at}

-- 22 parts of `size`, of which the k-th begins at `k * size`
pub part_ends : (k n : ℕ) → k < 22 → k * (n / 22) + n / 22 ≤ n
part_ends k n h =
    let most : k * (n / 22) ≤ 21 * (n / 22) = mul-le-mul_right (n / 22) (omega arith) in
    omega arith

pub part_size : (k size : ℕ) → k * size + size - k * size ≡ size
part_size k size = omega arith

pub places_length : (area : List ℕ) (k : ℕ) → k < 22 → length (places_at area k) ≡ size_in area
places_length area k h =
    length-take-le (size_in area) (drop (k * size_in area) area)
    (omega (arith, length-drop (k * size_in area) area, part_ends k (length area) h))
