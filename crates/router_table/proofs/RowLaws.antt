-- Every row of the fresh table, from the repeat that it is; and the ports that a row requests, bit by bit.
-- Assumes nothing.
use mathlib.Core.Path.{◌≡◌, ap}
use Prim.Native.Nat.{ℕ, zero, suc, ◌/◌, ◌%◌, ◌^◌, ◌<◌}
use native.Mathlib.Omega.{arith}
use lib.Dec.{eqb}
use lib.ListN.{get_or-replicate}
use borrow.Author.Tests.{lt-ltb, ne_eqb}
use Rattle.router_table.specs.Rows.{bit, requests, INVALID, fresh_table, EveryRowInvalid, RequestsSay}

pub every_row_invalid : EveryRowInvalid
unfolding fresh_table
every_row_invalid row h = rw (lt-ltb row 256 h) (get_or-replicate 256 row INVALID 0 h)

-- which ports a row requests, port by port

same_bit : (m n : ℕ) → m ≡ n → eqb m 1 ≡ eqb n 1
same_bit m n e = ap (λ (k : ℕ). eqb k 1) e

request_bit : (row p : ℕ) → 0 < p → p < 11 → bit (requests row) p ≡ bit row p
request_bit row zero h k = absurd (omega arith)
request_bit row (suc zero) h k = same_bit (requests row / 2 ^ 1 % 2) (row / 2 ^ 1 % 2) (omega arith)
request_bit row (suc (suc zero)) h k = same_bit (requests row / 2 ^ 2 % 2) (row / 2 ^ 2 % 2) (omega arith)
request_bit row (suc (suc (suc zero))) h k = same_bit (requests row / 2 ^ 3 % 2) (row / 2 ^ 3 % 2) (omega arith)
request_bit row (suc (suc (suc (suc zero)))) h k = same_bit (requests row / 2 ^ 4 % 2) (row / 2 ^ 4 % 2) (omega arith)
request_bit row (suc (suc (suc (suc (suc zero))))) h k = same_bit (requests row / 2 ^ 5 % 2) (row / 2 ^ 5 % 2) (omega arith)
request_bit row (suc (suc (suc (suc (suc (suc zero)))))) h k = same_bit (requests row / 2 ^ 6 % 2) (row / 2 ^ 6 % 2) (omega arith)
request_bit row (suc (suc (suc (suc (suc (suc (suc zero))))))) h k = same_bit (requests row / 2 ^ 7 % 2) (row / 2 ^ 7 % 2) (omega arith)
request_bit row (suc (suc (suc (suc (suc (suc (suc (suc zero)))))))) h k = same_bit (requests row / 2 ^ 8 % 2) (row / 2 ^ 8 % 2) (omega arith)
request_bit row (suc (suc (suc (suc (suc (suc (suc (suc (suc zero))))))))) h k = same_bit (requests row / 2 ^ 9 % 2) (row / 2 ^ 9 % 2) (omega arith)
request_bit row (suc (suc (suc (suc (suc (suc (suc (suc (suc (suc zero)))))))))) h k = same_bit (requests row / 2 ^ 10 % 2) (row / 2 ^ 10 % 2) (omega arith)
request_bit row (suc (suc (suc (suc (suc (suc (suc (suc (suc (suc (suc p))))))))))) h k = absurd (omega arith)

pub requests_say : (row : ℕ) → RequestsSay row
requests_say row =
    record {
      asked = request_bit row;
      configuration = ne_eqb (requests row / 2 ^ 0 % 2) 1 (λ e. omega (arith, e));
      above = omega arith;
    }
