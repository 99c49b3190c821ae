-- What a listing is where its input is too long and where it is not; there its lines are the reports that its bits mean,
-- as the decoder says what is meant and the bits mean one thing.
-- Assumes nothing.
use borrow.Author.Tests.{lt-ltb, le-ltb}
use mathlib.Core.Path.{◌≡◌, ap, ◌∙◌}
use mathlib.Core.List.{List, ◌++◌}
use Prim.Native.Nat.{ℕ, ◌≤◌, ◌<◌}
use lib.ListN.{length}
use Rattle.characters_stream.proofs.MeaningProofs.{says_what_is_meant, means_one_thing}
use Rattle.characters_stream.specs.Feeding.{fed}
use Rattle.characters_stream.specs.Meaning.{Line}
use Rattle.characters.specs.States.{Fresh}
use Rattle.listing.specs.Input.{good, bits_in}
use Rattle.listing.specs.Text.{text_of}
use Rattle.listing.specs.Claims.{ListingMeans}
use Rattle.listing.specs.Ascii.{ascii}
use Rattle.std.proofs.Common.{Option}
use Rattle.std.specs.Option.{IsSome}
use Rattle.listing.specs.Listing.{room, too_small, answer, Rendered, report_lines, last_line, most_bytes, all_lines, listing}

pub too_long : (input : List ℕ) → most_bytes < length input → listing input ≡ ascii "LONG\n"
unfolding listing
too_long input h = rw (lt-ltb most_bytes (length input) h)

pub not_too_long : (input : List ℕ) → length input ≤ most_bytes → listing input ≡ all_lines input
unfolding listing
not_too_long input h = rw (le-ltb most_bytes (length input) h)

pub listing_means : ListingMeans
unfolding report_lines
listing_means input h =
    let bits = bits_in (good input) in
    let meant = says_what_is_meant bits in (
      (fed Fresh 1 bits, meant),
      λ lines lists.
          not_too_long input h
          ∙ ap (λ (all : List Line). text_of all ++ last_line input)
          (means_one_thing.1 bits (fed Fresh 1 bits) lines meant lists),
    )

-- a buffer of this room is never too small
pub always_written : {input out left : List ℕ} {written : Option ℕ} → Rendered input out written left → room ≤ length out →
    IsSome written
unfolding answer too_small
always_written {input} {out} rendered large = rw (rendered.answers, le-ltb (length out) room large)
