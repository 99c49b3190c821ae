-- What a list of bits since fresh means (01, Characters on the wire, Decoder), by rules on all the bits so far. What no rule
-- gives is not reported. A bit's number is the length of the list that it ends.
-- Assumes nothing.
use Rattle.std.specs.Prelude.{◌≡◌, Bool, true, false, List, [], ◌∷◌, ◌++◌, ℕ, ◌+◌, ◌<◌, length, take}
use Rattle.vocabulary.specs.NChars.{EOP, EEP}
use Rattle.vocabulary.specs.declared.Token.{Token}
use Rattle.vocabulary.specs.declared.Token.TheVariants.{Null, Fct, NChar, TimeCode}
use Rattle.characters.specs.Bits.{odd, number}
use Rattle.characters.specs.Decoder.{escaped}
use Rattle.characters.specs.declared.reports.Report.{Report}
use Rattle.characters.specs.declared.reports.Report.TheVariants.{Got, ParityError, EscapeError}
use Rattle.characters.specs.declared.reports.Waiting.{Waiting}
use Rattle.characters.specs.declared.reports.Waiting.TheVariants.{Reported, Whole, Esc}

-- "From fresh it hunts for the eight bits 01110100."
abbrev pub eight_bits : List Bool
eight_bits = false ∷ true ∷ true ∷ true ∷ false ∷ true ∷ false ∷ false ∷ []

-- the bits end with these eight
abbrev pub EndIn8 : List Bool → Type 0
EndIn8 bits = (noise : List Bool) × (bits ≡ noise ++ eight_bits)

-- They do so now, and did not before.
pub record FirstNull (bits : List Bool) : Type 0 where
  pub found : EndIn8 bits
  pub not_before : (k : ℕ) → k < length bits → EndIn8 (take k bits) → ⊥

-- "P makes the ones in the previous character's body, P and the flag together odd."
abbrev pub TogetherOdd : List Bool → Bool → Bool → Type 0
TogetherOdd body p flag = odd (body ++ p ∷ flag ∷ []) ≡ true

-- "Flag 0: eight data bits, least significant first. Flag 1: two bits, in sending order 00 FCT, 01 EOP, 10 EEP, 11 ESC. ESC
-- then FCT is NULL; ESC then a data character is a Time-Code." `Reading behind_esc flag body w`: w waits once this body is whole.
pub data Reading : Bool → Bool → List Bool → Waiting → Type 0 where
  byte : {body : List Bool} → length body ≡ 8 → Reading false false body (Whole (NChar (number body)))
  fct : Reading false true (false ∷ false ∷ []) (Whole Fct)
  eop : Reading false true (false ∷ true ∷ []) (Whole (NChar EOP))
  eep : Reading false true (true ∷ false ∷ []) (Whole (NChar EEP))
  esc : Reading false true (true ∷ true ∷ []) Esc
  null : Reading true true (false ∷ false ∷ []) (Whole Null)
  time_code : {body : List Bool} → length body ≡ 8 → Reading true false body (Whole (TimeCode (number body)))

-- `Ended bits body w`: with good parity up to there, the bits end with a whole character, which has this body, and w waits.
-- Of the first NULL nothing waits: it is reported "at once".
pub data Ended : List Bool → List Bool → Waiting → Type 0 where
  first : {bits : List Bool} → FirstNull bits → Ended bits (false ∷ false ∷ []) Reported
  next : {bits body body' : List Bool} {w w' : Waiting} (p flag : Bool) →
      Ended bits body w → TogetherOdd body p flag → Reading (escaped w) flag body' w' → Ended (bits ++ p ∷ flag ∷ body') body' w'

-- `ReportedAt bits r`: on the last of these bits r is reported.
pub data ReportedAt : List Bool → Report → Type 0 where
  -- "on the last it reports NULL, at once"
  first_null : {bits : List Bool} → FirstNull bits → ReportedAt bits (Got Null)
  -- "A character is reported only when the next flag has closed its parity. NULL and Time-Code wait as wholes."
  closed : {bits body : List Bool} {t : Token} (p flag : Bool) →
      Ended bits body (Whole t) → TogetherOdd body p flag → ReportedAt (bits ++ p ∷ flag ∷ []) (Got t)
  -- "Bad parity: parity error at that flag; the waiting character is dropped."
  bad_parity : {bits body : List Bool} {w : Waiting} (p flag : Bool) →
      Ended bits body w → (TogetherOdd body p flag → ⊥) → ReportedAt (bits ++ p ∷ flag ∷ []) ParityError
  -- "ESC then EOP, EEP or ESC: escape error at the last bit of the second."
  bad_escape : {bits body : List Bool} (p a b : Bool) →
      Ended bits body Esc → TogetherOdd body p true → ((a ∷ b ∷ []) ≡ (false ∷ false ∷ []) → ⊥) →
      ReportedAt (bits ++ p ∷ true ∷ a ∷ b ∷ []) EscapeError

-- A report and the number of the bit at which it came, from 1.
pub record Line : Type 0 where
  pub at : ℕ
  pub report : Report

-- `Lists bits lines`: the reports of these bits since fresh, in their order.
pub data Lists : List Bool → List Line → Type 0 where
  none : Lists [] []
  silent : {bits : List Bool} (b : Bool) {lines : List Line} →
      Lists bits lines → ((r : Report) → ReportedAt (bits ++ b ∷ []) r → ⊥) → Lists (bits ++ b ∷ []) lines
  spoken : {bits : List Bool} (b : Bool) {r : Report} {lines : List Line} →
      Lists bits lines → ReportedAt (bits ++ b ∷ []) r →
      Lists (bits ++ b ∷ []) (lines ++ record { at = length bits + 1; report = r } ∷ [])
