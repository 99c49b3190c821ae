-- 01, The ten refusals, as far as they concern characters: what each call tests, in the paper's order.
-- Assumes nothing.
use Rattle.std.specs.Prelude.{ℕ, Bool, true, false, ◌||◌, List, [], ◌∷◌, eqb, ltb}
use Rattle.vocabulary.specs.Refusals.{STATE, CHAR, STOPPED, Test, test, first_of}
use Rattle.vocabulary.specs.Tokens.{bad_char}
use Rattle.vocabulary.specs.declared.Token.{Token}
use Rattle.characters.specs.Decoder.{hunted_for}
use Rattle.characters.specs.declared.reports.Waiting.{Waiting}
use Rattle.characters.specs.declared.reports.Waiting.TheVariants.{Reported, Whole, Esc}
use Rattle.characters.specs.States.{Phase, Hunting, Between, Parity, Data, Control, Second}
use Rattle.characters.specs.States.{Decoder, Fresh, Heard, Stopped}

-- 1 STATE: "a decoder or encoder field outside the values its rules give it". An encoder has one bit, so it has none.

-- what waits is a token that the decoder makes
abbrev pub bad_waiting : Waiting → Bool
bad_waiting Reported = false
bad_waiting (Whole t) = bad_char t
bad_waiting Esc = false

-- The hunt ends when its places hold what it hunts for; the places of data bits always hold the mark.
abbrev pub bad_phase : Phase → Bool
bad_phase (Hunting places) = eqb places hunted_for
bad_phase (Between w) = bad_waiting w
bad_phase (Parity w p) = bad_waiting w
bad_phase (Data escape places) = eqb places 0
bad_phase (Control escape) = false
bad_phase (Second escape a) = false

-- the ninth tick of a silence stops the decoder, so it never keeps more than eight
abbrev pub bad_decoder : Decoder → Bool
bad_decoder Fresh = false
bad_decoder (Heard p silent) = ltb 8 silent || bad_phase p
bad_decoder Stopped = false

abbrev pub is_stopped : Decoder → Bool
is_stopped Fresh = false
is_stopped (Heard p silent) = false
is_stopped Stopped = true

-- what a bit or a tick is tested for: "7 STOPPED: bit or tick to a stopped decoder"
abbrev pub decoder_tests : Decoder → List Test
decoder_tests d = test STATE (bad_decoder d) ∷ test STOPPED (is_stopped d) ∷ []

abbrev pub decoder_refusal : Decoder → ℕ
decoder_refusal d = first_of (decoder_tests d)

-- what a token to encode is tested for
abbrev pub encoder_tests : Token → List Test
encoder_tests t = test CHAR (bad_char t) ∷ []

abbrev pub encoder_refusal : Token → ℕ
encoder_refusal t = first_of (encoder_tests t)
