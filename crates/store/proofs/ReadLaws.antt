-- A stored number as it is read: an N-Char, and an end where the number is one.
-- Assumes nothing.
use mathlib.Core.Path.{◌≡◌}
use Prim.Native.Nat.{ℕ, ◌≤◌, ◌<◌}
use native.Mathlib.Omega.{arith}
use native.Mathlib.Decide.{dec_lt}
use borrow.Author.Tests.{lt-ltb, le-ltb, le-leb}
use Rattle.vocabulary.specs.NChars.{read_as, is_end}

pub read_small : (n : ℕ) → read_as n ≤ 257
read_small n = go (dec_lt 257 n)
  where
    go : Dec (257 < n) → read_as n ≤ 257
    go (yes h) = rw (lt-ltb 257 n h) (omega arith)
    go (no h) = rw (le-ltb 257 n (omega (arith, h))) (omega (arith, h))

pub end_as_read : (n : ℕ) → is_end (read_as n) ≡ is_end n
end_as_read n = go (dec_lt 257 n)
  where
    go : Dec (257 < n) → is_end (read_as n) ≡ is_end n
    go (yes h) = rw (lt-ltb 257 n h, le-leb 256 n (omega arith))
    go (no h) = rw (le-ltb 257 n (omega (arith, h)))
