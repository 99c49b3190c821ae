-- A set of 16 bits holds no port past its bits.
-- Assumes nothing.
use Rattle.std.proofs.Common.{◌≡◌, ℕ, ◌<◌, ◌≤◌, ◌^◌, false, arith}
use Rattle.std.proofs.Math.Nat.{div-eq_of_lt, pow-le-pow_right}
use Rattle.router_ports.specs.Ports.{wants}

pub none_past : (ports port : ℕ) → ports < 65536 → 16 ≤ port → wants ports port ≡ false
none_past ports port fits past =
    let bits = pow-le-pow_right {n = 2} (omega arith) past in
    rw (div-eq_of_lt {n = ports} {m = 2 ^ port} (omega (arith, bits)))
