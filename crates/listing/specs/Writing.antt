-- Text put on a page, and a listing as far as its bits have been taken.
-- Assumes nothing.
use Rattle.std.specs.Prelude.{◌≡◌, Bool, List, ℕ, ◌+◌, ◌≤◌, length}
use Rattle.std.proofs.lemmas.List.Edits.{sets}
use Rattle.characters.specs.States.{Decoder, Fresh}
use Rattle.characters.specs.DecoderWords.{decoder_of}
use Rattle.characters_stream.specs.Feeding.{fed, after}
use Rattle.listing.specs.Text.{text_of}
use Rattle.listing.specs.declared.Page.{Page}
use Rattle.listing.specs.declared.Listing.{Listing}

-- there is room for the text
pub record Room (page : Page) (text : List ℕ) : Type 0 where
  pub fits : page.at + length text ≤ length page.out.now

-- The text stands where the page had come to, the rest as before, and the next byte goes behind it.
pub record Puts (old : Page) (text : List ℕ) (new : Page) : Type 0 where
  pub same_buffer : new.out.ghost_name ≡ old.out.ghost_name
  pub behind : new.at ≡ old.at + length text
  pub stands : new.out.now ≡ sets old.out.now old.at text
  pub same_length : length new.out.now ≡ length old.out.now

-- the decoder that bits have gone to, and their count
pub record Progress : Type 0 where
  pub decoder : Decoder
  pub count : ℕ

abbrev pub start : Progress
start = record { decoder = Fresh; count = 0 }

abbrev pub meant : Listing → Progress
meant l = record { decoder = decoder_of l.words; count = l.count }

-- the lines that more bits give
unfoldable pub more_text : Progress → List Bool → List ℕ
more_text p bits = text_of (fed p.decoder (p.count + 1) bits)

unfoldable pub progressed : Progress → List Bool → Progress
progressed p bits = record { decoder = after p.decoder bits; count = p.count + length bits }

-- Some bits have been taken, and their lines written.
pub record Goes (old : Listing) (before : Page) (bits : List Bool) (new : Listing) (behind : Page) : Type 0 where
  pub progress : meant new ≡ progressed (meant old) bits
  pub written : Puts before (more_text (meant old) bits) behind
