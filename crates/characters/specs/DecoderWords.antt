-- The words of a decoder: what stands where, and what they mean. A word that a phase has no use for is 0.
-- Assumes nothing.
use Rattle.std.specs.Prelude.{ℕ, ◌<◌, ◌≡◌, Bool, true, not, ◌&&◌, List, [], ◌∷◌, eqb, leb, Option, Result, Ok, Err}
use Rattle.std.specs.List.{list_all, zip}
use Rattle.vocabulary.specs.Choice.{pick}
use Rattle.vocabulary.specs.declared.Refusal.{Refusal}
use Rattle.vocabulary.specs.Refusals.{STATE, number}
use Rattle.vocabulary.specs.Tokens.{kind_of, value_of}
use Rattle.words.specs.Words.{Left, Stays, word_at, truth_word, truth, byte, same}
use Rattle.words.specs.Arguments.{token_of, FitsToken}
use Rattle.characters.specs.declared.phases.Phase as numbers
use Rattle.characters.specs.declared.phases.Phase.TheVariants as the
use Rattle.characters.specs.declared.reports.Report.{Report}
use Rattle.characters.specs.declared.reports.Waiting.{Waiting}
use Rattle.characters.specs.declared.reports.Waiting.TheVariants.{Reported, Whole, Esc}
use Rattle.characters.specs.States.{Phase, Hunting, Between, Parity, Data, Control, Second}
use Rattle.characters.specs.States.{Decoder, Fresh, Heard, Stopped, Step, Decoded}
use Rattle.characters.specs.Decoder.{bit_step}
use Rattle.characters.specs.Reports.{report_words}
use Rattle.characters.specs.Calls.{bit_answer, tick_answer, decode_accepted}
use Rattle.characters.specs.Refusals.{bad_decoder}

-- the number of the phase
abbrev pub phase_at : ℕ
phase_at = 0

-- the ticks since the last bit
abbrev pub silent_at : ℕ
silent_at = 1

-- the number and the value of what waits
abbrev pub waits_at : ℕ
waits_at = 2

abbrev pub value_at : ℕ
value_at = 3

-- whether an ESC came before
abbrev pub escape_at : ℕ
escape_at = 4

-- the parity bit, or the first bit of a control body
abbrev pub first_at : ℕ
first_at = 5

-- the eight places for bits
abbrev pub places_at : ℕ
places_at = 6

-- the numbers of the phases
abbrev pub fresh_number : ℕ
fresh_number = 0

abbrev pub hunting_number : ℕ
hunting_number = 1

abbrev pub between_number : ℕ
between_number = 2

abbrev pub parity_number : ℕ
parity_number = 3

abbrev pub data_number : ℕ
data_number = 4

abbrev pub control_number : ℕ
control_number = 5

abbrev pub second_number : ℕ
second_number = 6

abbrev pub stopped_number : ℕ
stopped_number = 7

abbrev pub phase_number : numbers.Phase → ℕ
phase_number the.Fresh = fresh_number
phase_number the.Hunting = hunting_number
phase_number the.Between = between_number
phase_number the.Parity = parity_number
phase_number the.Data = data_number
phase_number the.Control = control_number
phase_number the.Second = second_number
phase_number the.Stopped = stopped_number

-- the phase that has this number, if one has
abbrev pub phase_numbered : ℕ → Result numbers.Phase Refusal
phase_numbered n =
    pick (eqb n hunting_number) (Ok the.Hunting)
    (pick (eqb n between_number) (Ok the.Between)
    (pick (eqb n parity_number) (Ok the.Parity)
    (pick (eqb n data_number) (Ok the.Data)
    (pick (eqb n control_number) (Ok the.Control)
    (pick (eqb n second_number) (Ok the.Second)
    (pick (eqb n stopped_number) (Ok the.Stopped)
    (pick (eqb n fresh_number) (Ok the.Fresh) (Err STATE))))))))

-- what waits: nothing, a token by its number and value, or an ESC
abbrev pub esc_number : ℕ
esc_number = 5

abbrev pub waiting_number : Waiting → ℕ
waiting_number Reported = 0
waiting_number (Whole t) = kind_of t
waiting_number Esc = esc_number

abbrev pub waiting_value : Waiting → ℕ
waiting_value Reported = 0
waiting_value (Whole t) = value_of t
waiting_value Esc = 0

unfoldable pub waiting_of : ℕ → ℕ → Waiting
waiting_of n value = pick (eqb n 0) Reported (pick (eqb n esc_number) Esc (Whole (token_of n value)))

-- a word that a phase has no use for is 0
abbrev pub phase_words : Phase → ℕ → List ℕ
phase_words (Hunting places) silent = hunting_number ∷ silent ∷ 0 ∷ 0 ∷ 0 ∷ 0 ∷ places ∷ []
phase_words (Between w) silent = between_number ∷ silent ∷ waiting_number w ∷ waiting_value w ∷ 0 ∷ 0 ∷ 0 ∷ []
phase_words (Parity w p) silent = parity_number ∷ silent ∷ waiting_number w ∷ waiting_value w ∷ 0 ∷ truth_word p ∷ 0 ∷ []
phase_words (Data escape places) silent = data_number ∷ silent ∷ 0 ∷ 0 ∷ truth_word escape ∷ 0 ∷ places ∷ []
phase_words (Control escape) silent = control_number ∷ silent ∷ 0 ∷ 0 ∷ truth_word escape ∷ 0 ∷ 0 ∷ []
phase_words (Second escape a) silent = second_number ∷ silent ∷ 0 ∷ 0 ∷ truth_word escape ∷ truth_word a ∷ 0 ∷ []

abbrev pub decoder_words : Decoder → List ℕ
decoder_words Fresh = fresh_number ∷ 0 ∷ 0 ∷ 0 ∷ 0 ∷ 0 ∷ 0 ∷ []
decoder_words (Heard p silent) = phase_words p silent
decoder_words Stopped = stopped_number ∷ 0 ∷ 0 ∷ 0 ∷ 0 ∷ 0 ∷ 0 ∷ []

-- what words mean; a number that no phase has means a fresh one, whose words are others
unfoldable pub decoder_from : ℕ → ℕ → Waiting → Bool → Bool → ℕ → Decoder
decoder_from n silent w escape b places =
    pick (eqb n hunting_number) (Heard (Hunting places) silent)
    (pick (eqb n between_number) (Heard (Between w) silent)
    (pick (eqb n parity_number) (Heard (Parity w b) silent)
    (pick (eqb n data_number) (Heard (Data escape places) silent)
    (pick (eqb n control_number) (Heard (Control escape) silent)
    (pick (eqb n second_number) (Heard (Second escape b) silent) (pick (eqb n stopped_number) Stopped Fresh))))))

unfoldable pub decoder_of : List ℕ → Decoder
decoder_of words =
    decoder_from (word_at words phase_at) (byte (word_at words silent_at))
    (waiting_of (word_at words waits_at) (word_at words value_at))
    (truth (word_at words escape_at)) (truth (word_at words first_at)) (byte (word_at words places_at))

-- words that are those of what they mean
abbrev pub is_decoder : List ℕ → Bool
is_decoder words = same words (decoder_words (decoder_of words))

-- the largest value that something with this number waits with: of an N-Char EEP, of a Time-Code eight bits
abbrev pub most_value : ℕ → ℕ
most_value n = pick (eqb n 3) 257 (pick (eqb n 4) 255 0)

-- the words of this decoder, its fields with values that the rules give them
unfoldable pub is_good_as : List ℕ → Decoder → Bool
is_good_as words d = same words (decoder_words d) && not (bad_decoder d)

-- a call answers STATE to any other words
unfoldable pub is_good : List ℕ → Bool
is_good words = is_good_as words (decoder_of words)

-- no word is above the largest that is allowed in its place
abbrev pub within : List ℕ → List ℕ → Bool
within words most = list_all (λ (p : ℕ × ℕ). leb p.0 p.1) (zip words most)

-- the two calls
unfoldable pub decoded : Decoded → Left
decoded a = record { refusal = a.refusal; state = decoder_words a.decoder; out = report_words a.report }

unfoldable pub no_decoder : List ℕ → Left
no_decoder words = record { refusal = number STATE; state = words; out = 0 ∷ 0 ∷ [] }

abbrev pub accepted : Step → Left
accepted s = decoded (decode_accepted s)

-- the words that a step leaves, and what it reports
abbrev pub Made : Step → List ℕ → Option Report → Type 0
Made s words report = (words ≡ decoder_words s.decoder) × (report ≡ s.report)

-- the same, of a bit to this decoder
abbrev pub Takes : List ℕ → Decoder → Bool → List ℕ → Option Report → Type 0
Takes words d b new report = words ≡ decoder_words d → Made (bit_step d b) new report

unfoldable pub bit_left : List ℕ → ℕ → Left
bit_left words b = pick (is_decoder words) (decoded (bit_answer (decoder_of words) (truth b))) (no_decoder words)

unfoldable pub tick_left : List ℕ → Left
tick_left words = pick (is_decoder words) (decoded (tick_answer (decoder_of words))) (no_decoder words)

-- numbers that fit their eight and 16 bits, as all do that the code holds
abbrev pub FitsWaiting : Waiting → Type 0
FitsWaiting Reported = Unit {0}
FitsWaiting (Whole t) = FitsToken t
FitsWaiting Esc = Unit {0}

abbrev pub FitsPhase : Phase → Type 0
FitsPhase (Hunting places) = places < 256
FitsPhase (Between w) = FitsWaiting w
FitsPhase (Parity w p) = FitsWaiting w
FitsPhase (Data escape places) = places < 256
FitsPhase (Control escape) = Unit {0}
FitsPhase (Second escape a) = Unit {0}

abbrev pub FitsDecoder : Decoder → Type 0
FitsDecoder Fresh = Unit {0}
FitsDecoder (Heard p silent) = (silent < 256) × FitsPhase p
FitsDecoder Stopped = Unit {0}

pub record KeepsDecoders : Type 0 where
  -- a decoder's words mean it, so they are those of a decoder
  pub back : (d : Decoder) → FitsDecoder d → decoder_of (decoder_words d) ≡ d
  pub is_decoder_lem : (d : Decoder) → FitsDecoder d → is_decoder (decoder_words d) ≡ true
  -- a refused call leaves the words as they were, and answers zeros
  pub bit_stays : (words : List ℕ) (b : ℕ) → Stays words (0 ∷ 0 ∷ []) (bit_left words b)
  pub tick_stays : (words : List ℕ) → Stays words (0 ∷ 0 ∷ []) (tick_left words)
