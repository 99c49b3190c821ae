-- 01, The router: the 256 rows of the routing table. A row is 32 bits; a set of ports is a number whose bit p is port p.
-- Assumes nothing.
use Rattle.std.specs.Prelude.{◌≡◌, ℕ, ◌+◌, ◌*◌, ◌/◌, ◌%◌, ◌^◌, ◌<◌, Bool, false, ◌||◌, List, get_or, set, replicate, eqb, ltb}
use Rattle.vocabulary.specs.Choice.{pick}

abbrev pub bit : ℕ → ℕ → Bool
bit row k = eqb (row / 2 ^ k % 2) 1

-- bit 31 alone
abbrev pub INVALID : ℕ
INVALID = 0x80000000

-- "All 256 rows of the routing table hold 0x80000000 at the start"
unfoldable pub fresh_table : List ℕ
fresh_table = replicate 256 INVALID

-- "Bits 10..1 request ports 10..1, 29 deletes the header, 30 is high priority, 31 invalid."
abbrev pub requests : ℕ → ℕ
requests row = row / 2 % 1024 * 2

abbrev pub deletes : ℕ → Bool
deletes row = bit row 29

abbrev pub is_high : ℕ → Bool
is_high row = bit row 30

abbrev pub is_invalid : ℕ → Bool
is_invalid row = bit row 31

-- "A write clears bits 28..11 and 0"
abbrev pub cleared : ℕ → ℕ
cleared value = value / 2 ^ 29 * 2 ^ 29 + requests value

-- "if then bits 10..1 are zero the row becomes 0x80000000"
abbrev pub written_row : ℕ → ℕ
written_row value = pick (eqb (requests value) 0) INVALID (cleared value)

-- a row number past the last names no row
abbrev pub row_at : List ℕ → ℕ → ℕ
row_at table row = pick (ltb row 256) (get_or table row 0) 0

unfoldable pub with_row : List ℕ → ℕ → ℕ → List ℕ
with_row table row value = pick (ltb row 256) (set table row (written_row value)) table

-- 4 ROW: "outside 32 to 255"
abbrev pub outside_rows : ℕ → Bool
outside_rows row = ltb row 32 || ltb 255 row

-- what "All 256 rows" comes to: every row of the fresh table is invalid
abbrev pub EveryRowInvalid : Type 0
EveryRowInvalid = (row : ℕ) → row < 256 → row_at fresh_table row ≡ INVALID

-- what "Bits 10..1 request ports 10..1" comes to: in the set of ports that a row requests, bit p is bit p of the row for ports 1
-- to 10, and no other bit is on
pub record RequestsSay (row : ℕ) : Type 0 where
  pub asked : (p : ℕ) → 0 < p → p < 11 → bit (requests row) p ≡ bit row p
  pub configuration : bit (requests row) 0 ≡ false
  pub above : requests row < 2048
