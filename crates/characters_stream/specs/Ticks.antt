-- What a list of calls since fresh means, ticks among the bits (01, Characters on the wire, Decoder), by rules on all the
-- calls so far. What no rule gives is not reported.
-- Assumes nothing.
use Rattle.std.specs.Prelude.{◌≡◌, Bool, true, false, List, [], ◌∷◌, ◌++◌, ◌↔◌, Option, Some}
use Rattle.characters.specs.Calls.{bit_answer, tick_answer}
use Rattle.characters.specs.declared.reports.Report.{Report}
use Rattle.characters.specs.declared.reports.Report.TheVariants.{Got, ParityError, EscapeError, Disconnect}
use Rattle.characters.specs.States.{Decoder, Fresh}
use Rattle.characters_stream.specs.Meaning.{ReportedAt}
use Rattle.characters_stream.specs.GoodStates.{Call, bit, tick, left_all}

-- the bits among the calls
abbrev pub bits_in : List Call → List Bool
bits_in [] = []
bits_in (bit b ∷ calls) = b ∷ bits_in calls
bits_in (tick ∷ calls) = bits_in calls

abbrev pub nine_ticks : List Call
nine_ticks = tick ∷ tick ∷ tick ∷ tick ∷ tick ∷ tick ∷ tick ∷ tick ∷ tick ∷ []

-- "Nine ticks in a row without a bit, after at least one bit": there were such among the calls
abbrev pub WasSilent : List Call → Type 0
WasSilent calls = (before : List Call) × (b : Bool) × (rest : List Call) × (calls ≡ before ++ (bit b ∷ nine_ticks ++ rest))

abbrev pub is_error : Report → Bool
is_error (Got t) = false
is_error ParityError = true
is_error EscapeError = true
is_error Disconnect = true

-- on one of these bits an error was reported
abbrev pub Failed : List Bool → Type 0
Failed bits =
    (before : List Bool) × (rest : List Bool) × (r : Report)
    × (bits ≡ before ++ rest) × ReportedAt before r × (is_error r ≡ true)

-- `ReportedOn calls r`: on the last of these calls r is reported.
pub data ReportedOn : List Call → Report → Type 0 where
  -- up to a disconnect, what the bits mean without the ticks
  on_bit : (calls : List Call) (b : Bool) {r : Report} →
      (WasSilent calls → ⊥) → ReportedAt (bits_in calls ++ b ∷ []) r → ReportedOn (calls ++ bit b ∷ []) r
  -- "Nine ticks in a row without a bit, after at least one bit: disconnect. This holds while hunting too." "After an error
  -- it is stopped until made fresh."
  on_tick : (calls : List Call) (b : Bool) →
      (WasSilent calls → ⊥) → (Failed (bits_in calls ++ b ∷ []) → ⊥) → ReportedOn (calls ++ bit b ∷ nine_ticks) Disconnect

-- what a call on a decoder reports
abbrev pub told : Decoder → Call → Option Report
told d (bit b) = (bit_answer d b).report
told d tick = (tick_answer d).report

-- Called from fresh with bits and ticks in any order, it reports just what the calls mean.
abbrev pub SaysWhatCallsMean : Type 0
SaysWhatCallsMean =
    (calls : List Call) (call : Call) (r : Report) →
    (told (left_all Fresh calls) call ≡ Some r) ↔ ReportedOn (calls ++ call ∷ []) r
