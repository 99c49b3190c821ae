-- 01, Characters on the wire, Decoder: what one bit or one tick does to a decoder that does not refuse it.
-- Assumes nothing.
use Rattle.std.specs.Prelude.{ℕ, ◌+◌, ◌*◌, ◌/◌, ◌%◌, Bool, true, false, [], ◌∷◌, eqb, ltb, Option, None, Some}
use Rattle.vocabulary.specs.Choice.{pick}
use Rattle.vocabulary.specs.NChars.{EOP, EEP}
use Rattle.vocabulary.specs.declared.Token.{Token}
use Rattle.vocabulary.specs.declared.Token.TheVariants.{Null, Fct, NChar, TimeCode}
use Rattle.characters.specs.Bits.{bit, number}
use Rattle.characters.specs.Wire.{characters_of, last_odd, good_parity}
use Rattle.characters.specs.declared.reports.Report.{Report}
use Rattle.characters.specs.declared.reports.Report.TheVariants.{Got, ParityError, EscapeError, Disconnect}
use Rattle.characters.specs.declared.reports.Waiting.{Waiting}
use Rattle.characters.specs.declared.reports.Waiting.TheVariants.{Reported, Whole, Esc}
use Rattle.characters.specs.States.{Phase, Hunting, Between, Parity, Data, Control, Second}
use Rattle.characters.specs.States.{Decoder, Fresh, Heard, Stopped, Step}

-- the next bit is taken in phase p, and r is reported; a bit ends a silence
unfoldable pub goes_on : Phase → Option Report → Step
goes_on p r = record { decoder = Heard p 0; report = r }

-- "After an error it is stopped until made fresh."
unfoldable pub stops : Option Report → Step
stops r = record { decoder = Stopped; report = r }

-- Eight places for bits, as a number, first bit least significant: a new bit comes in at the top and the oldest goes.
abbrev pub shifted : ℕ → Bool → ℕ
shifted places b = places / 2 + 128 * bit b

-- "From fresh it hunts for the eight bits 01110100."
abbrev pub hunted_for : ℕ
hunted_for = number (false ∷ true ∷ true ∷ true ∷ false ∷ true ∷ false ∷ false ∷ [])

-- Before the first bit the eight places hold ones: the eight bits begin with 0, so no such place is ever taken for one of them.
abbrev pub no_bits : ℕ
no_bits = 255

-- "on the last it reports NULL, at once": so nothing waits
unfoldable pub hunts : ℕ → Bool → Step
hunts places b =
    pick (eqb (shifted places b) hunted_for) (goes_on (Between Reported) (Some (Got Null))) (goes_on (Hunting (shifted places b)) None)

-- whether the ones in the last body are odd: the body of the first NULL's FCT, of an ESC, or of the last character of what waits
abbrev pub body_odd : Waiting → Bool
body_odd Reported = false
body_odd (Whole t) = last_odd false (characters_of t)
body_odd Esc = false

-- "A character is reported only when the next flag has closed its parity." An ESC is no whole.
abbrev pub closes : Waiting → Option Report
closes Reported = None
closes (Whole t) = Some (Got t)
closes Esc = None

abbrev pub escaped : Waiting → Bool
escaped Reported = false
escaped (Whole t) = false
escaped Esc = true

-- Of the eight places only the top one is taken, by the mark that shows at the bottom when seven data bits have come.
abbrev pub no_data : ℕ
no_data = 128

-- the body that a flag announces, behind an ESC or not
abbrev pub body_of : Bool → Bool → Phase
body_of escape true = Control escape
body_of escape false = Data escape no_data

-- "parity is checked when a flag arrives"; "Bad parity: parity error at that flag; the waiting character is dropped."
unfoldable pub flagged : Waiting → Bool → Bool → Step
flagged w p flag =
    pick (good_parity (body_odd w) p flag) (goes_on (body_of (escaped w) flag) (closes w)) (stops (Some ParityError))

-- "ESC then a data character is a Time-Code."
abbrev pub data_token : Bool → ℕ → Token
data_token true v = TimeCode v
data_token false v = NChar v

-- a data bit: the eighth makes a whole that waits
unfoldable pub data_bit : Bool → ℕ → Bool → Step
data_bit escape places b =
    pick (eqb (places % 2) 1)
    (goes_on (Between (Whole (data_token escape (shifted places b)))) None)
    (goes_on (Data escape (shifted places b)) None)

-- the second bit of a control character behind no ESC: "00 FCT, 01 EOP, 10 EEP, 11 ESC"
abbrev pub plain : Bool → Bool → Waiting
plain false false = Whole Fct
plain false true = Whole (NChar EOP)
plain true false = Whole (NChar EEP)
plain true true = Esc

-- the same behind an ESC: "ESC then FCT is NULL"; "ESC then EOP, EEP or ESC: escape error at the last bit of the second."
abbrev pub second_bit : Bool → Bool → Bool → Step
second_bit false a b = goes_on (Between (plain a b)) None
second_bit true false false = goes_on (Between (Whole Null)) None
second_bit true false true = stops (Some EscapeError)
second_bit true true b = stops (Some EscapeError)

-- one bit in each phase
abbrev pub in_phase : Phase → Bool → Step
in_phase (Hunting places) b = hunts places b
in_phase (Between w) b = goes_on (Parity w b) None
in_phase (Parity w p) b = flagged w p b
in_phase (Data escape places) b = data_bit escape places b
in_phase (Control escape) b = goes_on (Second escape b) None
in_phase (Second escape a) b = second_bit escape a b

-- (a stopped decoder refuses bits and ticks before it comes to this)
abbrev pub bit_step : Decoder → Bool → Step
bit_step Fresh b = hunts no_bits b
bit_step (Heard p silent) b = in_phase p b
bit_step Stopped b = stops None

-- "Nine ticks in a row without a bit": eight have passed, and this is the ninth
unfoldable pub silence : Phase → ℕ → Step
silence p silent = pick (ltb silent 8) (record { decoder = Heard p (silent + 1); report = None }) (stops (Some Disconnect))

-- "after at least one bit: disconnect. This holds while hunting too."
abbrev pub tick_step : Decoder → Step
tick_step Fresh = record { decoder = Fresh; report = None }
tick_step (Heard p silent) = silence p silent
tick_step Stopped = stops None
