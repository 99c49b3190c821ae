-- The decoder fed with bits one by one, by its call as promised, and what is claimed of it.
-- Assumes nothing.
use Rattle.std.specs.Prelude.{◌≡◌, Bool, List, [], ◌∷◌, ◌++◌, ℕ, ◌+◌, Option, None, Some}
use Rattle.characters.specs.Calls.{bit_answer}
use Rattle.characters.specs.declared.reports.Report.{Report}
use Rattle.characters.specs.States.{Decoder, Fresh}
use Rattle.characters_stream.specs.Meaning.{Line, Lists, ReportedAt}

-- the line of a call's report, if it made one
abbrev pub line_of : ℕ → Option Report → List Line
line_of n None = []
line_of n (Some r) = record { at = n; report = r } ∷ []

-- the lines of the calls, the first bit being number n
unfoldable pub fed : Decoder → ℕ → List Bool → List Line
fed d n [] = []
fed d n (b ∷ bits) = line_of n (bit_answer d b).report ++ fed (bit_answer d b).decoder (n + 1) bits

-- the decoder after the calls
unfoldable pub after : Decoder → List Bool → Decoder
after d [] = d
after d (b ∷ bits) = after (bit_answer d b).decoder bits

-- Fed from fresh, it makes just the reports that the bits mean: noise and errors included.
abbrev pub SaysWhatIsMeant : Type 0
SaysWhatIsMeant = (bits : List Bool) → Lists bits (fed Fresh 1 bits)

-- The bits mean one thing: on a bit at most one report is made, and there is one list of them.
abbrev pub MeansOneThing : Type 0
MeansOneThing =
    ((bits : List Bool) (r r' : Report) → ReportedAt bits r → ReportedAt bits r' → r ≡ r')
    × ((bits : List Bool) (lines lines' : List Line) → Lists bits lines → Lists bits lines' → lines ≡ lines')
