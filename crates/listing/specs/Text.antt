-- 01, The listing: the text of each line, in ASCII, with its LF.
-- Assumes nothing.
use Rattle.std.specs.Prelude.{List, [], ◌∷◌, ◌++◌, ℕ, eqb, ltb}
use Rattle.vocabulary.specs.Choice.{pick}
use Rattle.vocabulary.specs.NChars.{EOP}
use Rattle.vocabulary.specs.declared.Token.{Token}
use Rattle.vocabulary.specs.declared.Token.TheVariants.{Null, Fct, NChar, TimeCode}
use Rattle.characters.specs.declared.reports.Report.{Report}
use Rattle.characters.specs.declared.reports.Report.TheVariants.{Got, ParityError, EscapeError, Disconnect}
use Rattle.characters_stream.specs.Meaning.{Line}
use Rattle.listing.specs.Ascii.{ascii}
use Rattle.listing.specs.Decimal.{decimal}

-- a word, a number and the end of the line
abbrev pub value_line : List ℕ → ℕ → List ℕ
value_line word n = word ++ (decimal n ++ ascii "\n")

-- "then `NULL`, `FCT`, `DATA` and value, `EOP`, `EEP`, `TIME` and value"
abbrev pub token_text : Token → List ℕ
token_text Null = ascii "NULL\n"
token_text Fct = ascii "FCT\n"
token_text (NChar n) = pick (ltb n EOP) (value_line (ascii "DATA ") n) (pick (eqb n EOP) (ascii "EOP\n") (ascii "EEP\n"))
token_text (TimeCode v) = value_line (ascii "TIME ") v

-- "`PARITY` or `ESCAPE`". A disconnect needs ticks, and a listing has none.
abbrev pub report_text : Report → List ℕ
report_text (Got t) = token_text t
report_text ParityError = ascii "PARITY\n"
report_text EscapeError = ascii "ESCAPE\n"
report_text Disconnect = []

-- "Each line is the number, from 1, of the bit at which the report came", then its text.
abbrev pub line_text : ℕ → Report → List ℕ
line_text n r = decimal n ++ (ascii " " ++ report_text r)

unfoldable pub text_of : List Line → List ℕ
text_of [] = []
text_of (line ∷ lines) = line_text line.at line.report ++ text_of lines
