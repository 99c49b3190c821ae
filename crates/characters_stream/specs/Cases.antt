-- 01, Numbers to hold it to: the starred cases of characters, ready to be gathered.
-- Assumes nothing.
use Rattle.std.specs.Prelude.{◌≡◌, Bool, true, false, List, [], ◌∷◌, ◌++◌, ℕ}
use Rattle.vocabulary.specs.declared.Token.TheVariants.{Null, TimeCode}
use Rattle.characters.specs.declared.reports.Report.{Report}
use Rattle.characters.specs.declared.reports.Report.TheVariants.{Got, ParityError, EscapeError}
use Rattle.characters.specs.States.{Fresh}
use Rattle.characters_stream.specs.Meaning.{Line, eight_bits}
use Rattle.characters_stream.specs.Feeding.{fed}

abbrev pub line : ℕ → Report → Line
line n r = record { at = n; report = r }

-- 0111, and the 34 bits of the listing's example behind its first 12
abbrev pub esc_bits : List Bool
esc_bits = false ∷ true ∷ true ∷ true ∷ []

abbrev pub fct_bits : List Bool
fct_bits = false ∷ true ∷ false ∷ false ∷ []

-- 1010000010 with its first bit, the thirteenth of all, made 0; then 0101 1111 0100
abbrev pub spoilt : List Bool
spoilt =
    false ∷ false ∷ true ∷ false ∷ false ∷ false ∷ false ∷ false ∷ true ∷ false
    ∷ false ∷ true ∷ false ∷ true ∷ true ∷ true ∷ true ∷ true ∷ fct_bits

-- 1010100000
abbrev pub five : List Bool
five = true ∷ false ∷ true ∷ false ∷ true ∷ false ∷ false ∷ false ∷ false ∷ false ∷ []

pub record CharacterCases : Type 0 where
  -- "Bit 13 above made 0: parity error at 14, FCT never reported."
  pub parity : fed Fresh 1 (eight_bits ++ fct_bits ++ spoilt) ≡ line 8 (Got Null) ∷ line 14 ParityError ∷ []
  -- "01110100 0111 0111: escape error at 16."
  pub escape : fed Fresh 1 (eight_bits ++ esc_bits ++ esc_bits) ≡ line 8 (Got Null) ∷ line 16 EscapeError ∷ []
  -- "01110100 0111 1010100000 0111: Time-Code 5, at bit 24."
  pub time_code :
      fed Fresh 1 (eight_bits ++ esc_bits ++ five ++ esc_bits) ≡ line 8 (Got Null) ∷ line 24 (Got (TimeCode 5)) ∷ []
