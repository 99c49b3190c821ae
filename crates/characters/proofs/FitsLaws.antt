-- What words mean has numbers that fit, and so has what a bit makes of it: its words mean it again.
-- Assumes nothing.
use Prim.Native.Nat.{ℕ, ◌%◌, ◌<◌}
use mathlib.Core.Path.{◌≡◌}
use mathlib.Core.Bool.{Bool, true, false}
use mathlib.Core.List.{List}
use native.Mathlib.Omega.{arith}
use lib.Dec.{eqb}
use Rattle.vocabulary.specs.Choice.{pick}
use Rattle.words.specs.Words.{word_at, truth, byte}
use Rattle.characters.specs.declared.reports.Report.TheVariants.{Got, ParityError}
use Rattle.characters.specs.declared.reports.Waiting.{Waiting}
use Rattle.characters.specs.declared.reports.Waiting.TheVariants.{Reported, Whole}
use Rattle.characters.specs.States.{Hunting, Between, Parity, Data, Control, Second, Decoder, Fresh, Heard, Stopped}
use Rattle.std.specs.Prelude.{None, Some}
use Rattle.vocabulary.specs.declared.Token.TheVariants.{Null}
use Rattle.characters.specs.Wire.{good_parity}
use Rattle.characters.specs.Decoder.{goes_on, stops, shifted, no_bits, hunted_for, hunts, body_odd, closes, escaped, body_of}
use Rattle.characters.specs.Decoder.{flagged, data_token, data_bit, second_bit, bit_step}
use Rattle.characters.specs.Refusals.{decoder_refusal}
use Rattle.characters.specs.Calls.{bit_answer, decode_accepted, decode_refused}
use Rattle.characters.specs.DecoderWords.{decoder_words, decoder_from, decoder_of, waiting_of, is_decoder, FitsDecoder}
use Rattle.characters.proofs.BitLaws.{bit_le}
use Rattle.characters.proofs.WaitingLaws.{waiting_fits}
use Rattle.characters.proofs.DecoderLaws.{keeps_decoders}

decoder_fits : (words : List ℕ) → FitsDecoder (decoder_of words)
unfolding decoder_of decoder_from
decoder_fits words = by (eqb n 1) (eqb n 2) (eqb n 3) (eqb n 4) (eqb n 5) (eqb n 6) (eqb n 7)
  where
    n : ℕ
    n = word_at words 0

    s : ℕ
    s = byte (word_at words 1)

    w : Waiting
    w = waiting_of (word_at words 2) (word_at words 3)

    h : Bool
    h = truth (word_at words 4)

    k : Bool
    k = truth (word_at words 5)

    p : ℕ
    p = byte (word_at words 6)

    by : (a b c d e f g : Bool) → FitsDecoder
        (pick a (Heard (Hunting p) s) (pick b (Heard (Between w) s)
        (pick c (Heard (Parity w k) s) (pick d (Heard (Data h p) s)
        (pick e (Heard (Control h) s) (pick f (Heard (Second h k) s) (pick g Stopped Fresh)))))))
    by true b c d e f g = (omega arith, omega arith)
    by false true c d e f g = (omega arith, waiting_fits (word_at words 2) (word_at words 3))
    by false false true d e f g = (omega arith, waiting_fits (word_at words 2) (word_at words 3))
    by false false false true e f g = (omega arith, omega arith)
    by false false false false true f g = (omega arith, tt)
    by false false false false false true g = (omega arith, tt)
    by false false false false false false true = tt
    by false false false false false false false = tt

shifted_fits : (places : ℕ) (b : Bool) → places < 256 → shifted places b < 256
shifted_fits places b h = omega (arith, bit_le b)

hunt_fits : (found : Bool) (places : ℕ) → places < 256 →
    FitsDecoder (pick found (goes_on (Between Reported) (Some (Got Null))) (goes_on (Hunting places) None)).decoder
unfolding goes_on
hunt_fits true places h = (omega arith, tt)
hunt_fits false places h = (omega arith, h)

flag_fits : (good : Bool) (w : Waiting) (flag : Bool) →
    FitsDecoder (pick good (goes_on (body_of (escaped w) flag) (closes w)) (stops (Some ParityError))).decoder
unfolding goes_on stops
flag_fits true w true = (omega arith, tt)
flag_fits true w false = (omega arith, omega arith)
flag_fits false w flag = tt

data_fits : (last escape : Bool) (v : ℕ) → v < 256 →
    FitsDecoder (pick last (goes_on (Between (Whole (data_token escape v))) None) (goes_on (Data escape v) None)).decoder
unfolding goes_on
data_fits true true v h = (omega arith, h)
data_fits true false v h = (omega arith, omega (arith, h))
data_fits false escape v h = (omega arith, h)

second_fits : (escape a b : Bool) → FitsDecoder (second_bit escape a b).decoder
unfolding goes_on stops
second_fits false false false = (omega arith, tt)
second_fits false false true = (omega arith, omega arith)
second_fits false true false = (omega arith, omega arith)
second_fits false true true = (omega arith, tt)
second_fits true false false = (omega arith, tt)
second_fits true false true = tt
second_fits true true b = tt

step_fits : (d : Decoder) (b : Bool) → FitsDecoder d → FitsDecoder (bit_step d b).decoder
unfolding hunts flagged data_bit goes_on stops
step_fits Fresh b h = hunt_fits (eqb (shifted no_bits b) hunted_for) (shifted no_bits b)
    (shifted_fits no_bits b (omega arith))
step_fits (Heard (Hunting places) s) b (h, k) =
    hunt_fits (eqb (shifted places b) hunted_for) (shifted places b) (shifted_fits places b k)
step_fits (Heard (Between w) s) b (h, k) = (omega arith, k)
step_fits (Heard (Parity w p) s) b (h, k) = flag_fits (good_parity (body_odd w) p b) w b
step_fits (Heard (Data escape places) s) b (h, k) =
    data_fits (eqb (places % 2) 1) escape (shifted places b) (shifted_fits places b k)
step_fits (Heard (Control escape) s) b (h, k) = (omega arith, tt)
step_fits (Heard (Second escape a) s) b (h, k) = second_fits escape a b
step_fits Stopped b h = tt

module _ (words : List ℕ) (b : Bool) where
  answer_fits : FitsDecoder (bit_answer (decoder_of words) b).decoder
  unfolding bit_answer decode_accepted decode_refused
  answer_fits = either (eqb (decoder_refusal d) 0)
    where
      d : Decoder
      d = decoder_of words

      either : (test : Bool) → FitsDecoder (pick test (decode_accepted (bit_step d b))
          (decode_refused d (decoder_refusal d))).decoder
      either true = step_fits d b (decoder_fits words)
      either false = decoder_fits words

  -- what a bit leaves of the words of a decoder are the words of a decoder
  pub bit_means : decoder_of (decoder_words (bit_answer (decoder_of words) b).decoder) ≡
      (bit_answer (decoder_of words) b).decoder
  bit_means = keeps_decoders.back (bit_answer (decoder_of words) b).decoder answer_fits

  pub bit_is_decoder : is_decoder (decoder_words (bit_answer (decoder_of words) b).decoder) ≡ true
  bit_is_decoder = keeps_decoders.is_decoder_lem (bit_answer (decoder_of words) b).decoder answer_fits
