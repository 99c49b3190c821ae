-- The buffer has room for any listing.
-- Assumes nothing.
use native.Mathlib.Omega.{arith}
use Rattle.listing.proofs.ListingLaws.{always_written}
use Rattle.listing_cases.proofs.show.Goals as goal

pub unwrap-length-requires : goal.unwrap-length-requires
unwrap-length-requires g c = always_written c.render.ensures (omega arith)
