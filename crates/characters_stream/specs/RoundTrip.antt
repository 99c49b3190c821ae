-- 01, Characters on the wire: "Encoding any list that starts with NULL from fresh and decoding it from fresh gives the list
-- without its last member (all of it when it is one NULL)."
-- Assumes nothing.
use Rattle.std.specs.Prelude.{◌≡◌, Bool, List, [], ◌∷◌, ◌++◌, ◌≤◌, ◌<◌}
use Rattle.vocabulary.specs.NChars.{EEP}
use Rattle.vocabulary.specs.declared.Token.{Token}
use Rattle.vocabulary.specs.declared.Token.TheVariants.{Null, Fct, NChar, TimeCode}
use Rattle.characters.specs.Bits.{bits_of}
use Rattle.characters.specs.Encoder.{fresh_encoder}
use Rattle.characters.specs.Calls.{encode_answer}
use Rattle.characters.specs.declared.reports.Report.{Report}
use Rattle.characters.specs.declared.reports.Report.TheVariants.{Got}
use Rattle.characters.specs.States.{Encoder, Fresh}
use Rattle.characters_stream.specs.Meaning.{Line}
use Rattle.characters_stream.specs.Feeding.{fed}

-- the bits that the encoder's calls give, one token after the other
unfoldable pub encoded : Encoder → List Token → List Bool
encoded e [] = []
encoded e (t ∷ ts) = bits_of (encode_answer e t).count (encode_answer e t).bits ++ encoded (encode_answer e t).encoder ts

-- An N-Char is at most 257, and a Time-Code has eight bits.
abbrev pub IsToken : Token → Type 0
IsToken Null = Unit {0}
IsToken Fct = Unit {0}
IsToken (NChar n) = n ≤ EEP
IsToken (TimeCode v) = v < 256

abbrev pub AreTokens : List Token → Type 0
AreTokens [] = Unit {0}
AreTokens (t ∷ ts) = IsToken t × AreTokens ts

-- all but the last
abbrev pub without_last : List Token → List Token
without_last [] = []
without_last (t ∷ []) = []
without_last (t ∷ u ∷ ts) = t ∷ without_last (u ∷ ts)

abbrev pub reports_of : List Line → List Report
reports_of [] = []
reports_of (line ∷ lines) = line.report ∷ reports_of lines

abbrev pub got_all : List Token → List Report
got_all [] = []
got_all (t ∷ ts) = Got t ∷ got_all ts

-- The list is NULL and then ts: without its last member it is NULL and then ts without its last, and all of it where ts is empty.
abbrev pub RoundTrip : Type 0
RoundTrip =
    (ts : List Token) → AreTokens ts →
    reports_of (fed Fresh 1 (encoded fresh_encoder (Null ∷ ts))) ≡ got_all (Null ∷ without_last ts)
