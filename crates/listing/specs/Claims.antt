-- What is claimed of the listing beside the call's own promise.
-- Assumes nothing.
use Rattle.std.specs.Prelude.{◌≡◌, List, ◌++◌, ℕ, ◌≤◌, ◌<◌, length}
use Rattle.characters_stream.specs.Meaning.{Line, Lists}
use Rattle.listing.specs.Decimal.{decimal, IsDecimal}
use Rattle.listing.specs.Input.{good, bits_in}
use Rattle.listing.specs.Text.{text_of}
use Rattle.listing.specs.Listing.{most_bytes, last_line, listing, room}

-- The lines of a listing are the reports that its bits mean, and no others.
abbrev pub ListingMeans : Type 0
ListingMeans =
    (input : List ℕ) → length input ≤ most_bytes →
    ((lines : List Line) × Lists (bits_in (good input)) lines)
    × ((lines : List Line) → Lists (bits_in (good input)) lines → listing input ≡ text_of lines ++ last_line input)

-- every number that a listing holds is below 100,000
abbrev pub DecimalsAreRight : Type 0
DecimalsAreRight = (n : ℕ) → n < 100000 → IsDecimal n (decimal n)

abbrev pub ListingsFit : Type 0
ListingsFit = (input : List ℕ) → length (listing input) ≤ room
