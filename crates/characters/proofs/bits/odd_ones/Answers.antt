-- `characters::bits::odd_ones` meets its contract: a test that antt computes at each of the 256 bytes.
-- Assumes nothing.
use Prim.Native.Nat.{ℕ, ◌%◌}
use mathlib.Core.Bool.{Bool}
use lib.Dec.{eqb}
use lib.Count.{ones}
use Rattle.std.specs.Prelude.{count_ones}
use Rattle.std.proofs.Common.{rules}
use Rattle.vocabulary.proofs.Below.{same, same_eq, below}
use Rattle.characters.specs.Bits.{odd, bits_of}
use Rattle.characters.proofs.bits.odd_ones.Goals as goal

abbrev right : ℕ → Bool
right v = same (eqb (count_ones v % 2) 1) (odd (bits_of 8 v))

pub returns : goal.returns
unfolding ones
returns c = same_eq _ _ (below right 256 tt c.args.v (search rules))
