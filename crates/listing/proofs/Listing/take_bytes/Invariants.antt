-- The bits of the bytes so far have been taken.
-- Assumes nothing.
use Rattle.std.proofs.Common.{take}
use Rattle.listing.specs.Input.{bits_in}
use Rattle.listing.specs.Writing.{Goes}
use Rattle.listing.proofs.Listing.take_bytes.Given as goal

abbrev pub invariant-loop-byte : goal.invariant-loop-byte
invariant-loop-byte l = Goes l.fn.self l.fn.page (bits_in (take l.byte-index l.bytes)) l.self l.page
