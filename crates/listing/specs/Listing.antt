-- 01, The listing: the whole text of an input, and what the call on a lent buffer answers and leaves in it.
-- Assumes nothing.
use Rattle.std.specs.Prelude.{◌≡◌, Bool, List, ◌++◌, ℕ, ◌≤◌, ltb, length, take, drop, Option, None, Some}
use Rattle.std.specs.Option.{unwrap_or}
use Rattle.vocabulary.specs.Choice.{pick}
use Rattle.characters.specs.States.{Fresh}
use Rattle.characters_stream.specs.Feeding.{fed}
use Rattle.listing.specs.Ascii.{ascii}
use Rattle.listing.specs.Input.{good, bits_in}
use Rattle.listing.specs.Text.{value_line, text_of}

abbrev pub most_bytes : ℕ
most_bytes = 65536

-- the lines of the bits before the first bad byte; "bits after an error are only counted"
unfoldable pub report_lines : List ℕ → List ℕ
report_lines input = text_of (fed Fresh 1 (bits_in (good input)))

-- "another byte gives `BAD` with its offset from 0 as the last line, without `END`"; "Otherwise the last line is `END` and
-- the count of bits"
unfoldable pub last_line : List ℕ → List ℕ
last_line input =
    pick (ltb (length (good input)) (length input))
    (value_line (ascii "BAD ") (length (good input)))
    (value_line (ascii "END ") (length (bits_in (good input))))

abbrev pub all_lines : List ℕ → List ℕ
all_lines input = report_lines input ++ last_line input

-- "More than 65,536 bytes: one line `LONG`."
unfoldable pub listing : List ℕ → List ℕ
listing input = pick (ltb most_bytes (length input)) (ascii "LONG\n") (all_lines input)

-- No listing is longer than this. A buffer must have as many places, whatever the input.
abbrev pub room : ℕ
room = 163874

unfoldable pub too_small : List ℕ → Bool
too_small out = ltb (length out) room

-- How many bytes were written; none where the buffer is too small.
unfoldable pub answer : List ℕ → List ℕ → Option ℕ
answer input out = pick (too_small out) None (Some (length (listing input)))

-- The buffer afterwards: the text and what stood behind it, or as it was where it is too small.
unfoldable pub buffer : List ℕ → List ℕ → List ℕ
buffer input out = pick (too_small out) out (listing input ++ drop (length (listing input)) out)

-- What `render` promises. The last two follow from the others: a caller passes the text on by them.
pub record Rendered (input out : List ℕ) (written : Option ℕ) (left : List ℕ) : Type 0 where
  pub answers : written ≡ answer input out
  pub leaves : left ≡ buffer input out
  pub within : unwrap_or written 0 ≤ length left
  pub counts : unwrap_or written 0 ≡ length (take (unwrap_or written 0) left)
