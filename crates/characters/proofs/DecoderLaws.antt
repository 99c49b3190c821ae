-- A decoder's words mean it, phase by phase; a refused call hands the decoder back, and its words are those that were
-- handed in.
-- Assumes nothing.
use Prim.Native.Nat.{ℕ}
use mathlib.Core.Path.{◌≡◌, refl, sym}
use mathlib.Core.Bool.{Bool, true, false}
use mathlib.Core.List.{List, [], ◌∷◌}
use lib.Dec.{eqb}
use Rattle.vocabulary.specs.Choice.{pick}
use Rattle.vocabulary.specs.declared.Token.TheVariants.{Null, Fct, NChar, TimeCode}
use Rattle.words.specs.Words.{Stays, truth}
use Rattle.words.proofs.NumberLaws.{byte_back, truth_back}
use Rattle.words.proofs.SameLaws.{same_is, same_itself}
use Rattle.words.proofs.StayLaws.{pick_stays}
use Rattle.words.proofs.TokenLaws.{token_back}
use Rattle.characters.specs.Decoder.{bit_step, tick_step}
use Rattle.characters.specs.Refusals.{decoder_refusal}
use Rattle.characters.specs.Calls.{bit_answer, tick_answer, decode_accepted, decode_refused}
use Rattle.characters.specs.declared.reports.Waiting.{Waiting}
use Rattle.characters.specs.declared.reports.Waiting.TheVariants.{Reported, Whole, Esc}
use Rattle.characters.specs.States.{Hunting, Between, Parity, Data, Control, Second, Decoder, Fresh, Heard, Stopped, Step}
use Rattle.characters.specs.DecoderWords.{waiting_number, waiting_value, waiting_of, decoder_words, decoder_from}
use Rattle.characters.specs.DecoderWords.{decoder_of, decoded, no_decoder, bit_left, tick_left, is_decoder}
use Rattle.characters.specs.DecoderWords.{FitsWaiting, FitsDecoder, KeepsDecoders}

waiting_back : (w : Waiting) → FitsWaiting w → waiting_of (waiting_number w) (waiting_value w) ≡ w
unfolding waiting_of
waiting_back Reported h = refl
waiting_back (Whole Null) h = rw (token_back Null h)
waiting_back (Whole Fct) h = rw (token_back Fct h)
waiting_back (Whole (NChar n)) h = rw (token_back (NChar n) h)
waiting_back (Whole (TimeCode v)) h = rw (token_back (TimeCode v) h)
waiting_back Esc h = refl

decoder_back : (d : Decoder) → FitsDecoder d → decoder_of (decoder_words d) ≡ d
unfolding decoder_of decoder_from
decoder_back Fresh h = refl
decoder_back (Heard (Hunting places) silent) (s, h) = rw (byte_back silent s, byte_back places h)
decoder_back (Heard (Between w) silent) (s, h) = rw (byte_back silent s, waiting_back w h)
decoder_back (Heard (Parity w p) silent) (s, h) = rw (byte_back silent s, waiting_back w h, truth_back p)
decoder_back (Heard (Data escape places) silent) (s, h) =
    rw (byte_back silent s, truth_back escape, byte_back places h)
decoder_back (Heard (Control escape) silent) (s, h) = rw (byte_back silent s, truth_back escape)
decoder_back (Heard (Second escape a) silent) (s, h) = rw (byte_back silent s, truth_back escape, truth_back a)
decoder_back Stopped h = refl

is_decoder_lem : (d : Decoder) → FitsDecoder d → is_decoder (decoder_words d) ≡ true
is_decoder_lem d fits = rw (decoder_back d fits) (same_itself (decoder_words d))

decoded_stays : (words : List ℕ) (d : Decoder) (s : Step) (n : ℕ) (test : Bool) → decoder_words d ≡ words →
    Stays words (0 ∷ 0 ∷ []) (decoded (pick test (decode_accepted s) (decode_refused d n)))
unfolding decoded decode_accepted decode_refused
decoded_stays words d s n true same refused = absurd (refused refl)
decoded_stays words d s n false same refused = (same, refl)

own : (words : List ℕ) → is_decoder words ≡ true → decoder_words (decoder_of words) ≡ words
own words p = sym (same_is words _ p)

bit_stays : (words : List ℕ) (b : ℕ) → Stays words (0 ∷ 0 ∷ []) (bit_left words b)
unfolding bit_left bit_answer no_decoder
bit_stays words b =
    pick_stays words (0 ∷ 0 ∷ []) (is_decoder words) _ _
    (λ p.
    decoded_stays words (decoder_of words) (bit_step (decoder_of words) (truth b)) _
    (eqb (decoder_refusal (decoder_of words)) 0) (own words p))
    (λ refused. (refl, refl))

tick_stays : (words : List ℕ) → Stays words (0 ∷ 0 ∷ []) (tick_left words)
unfolding tick_left tick_answer no_decoder
tick_stays words =
    pick_stays words (0 ∷ 0 ∷ []) (is_decoder words) _ _
    (λ p.
    decoded_stays words (decoder_of words) (tick_step (decoder_of words)) _
    (eqb (decoder_refusal (decoder_of words)) 0) (own words p))
    (λ refused. (refl, refl))

pub keeps_decoders : KeepsDecoders
keeps_decoders =
    record { back = decoder_back; is_decoder_lem = is_decoder_lem; bit_stays = bit_stays; tick_stays = tick_stays }
