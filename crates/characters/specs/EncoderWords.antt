-- The word of an encoder: 1 where the ones in the last body are odd in number.
-- Assumes nothing.
use Rattle.std.specs.Prelude.{ℕ, ◌≡◌, Bool, true, List, [], ◌∷◌}
use Rattle.vocabulary.specs.Choice.{pick}
use Rattle.vocabulary.specs.Refusals.{STATE, number}
use Rattle.vocabulary.specs.declared.Token.{Token}
use Rattle.words.specs.Words.{Left, Stays, word_at, truth_word, truth, same}
use Rattle.words.specs.Arguments.{token_of}
use Rattle.characters.specs.declared.encoder.Bits.{Bits}
use Rattle.characters.specs.Calls.{encode_answer}
use Rattle.characters.specs.Encoder.{sent}
use Rattle.characters.specs.States.{Encoder, Encoded}

abbrev pub encoder_words : Encoder → List ℕ
encoder_words e = truth_word e.odd ∷ []

unfoldable pub encoder_of : List ℕ → Encoder
encoder_of words = record { odd = truth (word_at words 0) }

abbrev pub is_encoder : List ℕ → Bool
is_encoder words = same words (encoder_words (encoder_of words))

unfoldable pub encoded : Encoded → Left
encoded a = record { refusal = a.refusal; state = encoder_words a.encoder; out = a.bits ∷ a.count ∷ [] }

unfoldable pub no_encoder : List ℕ → Left
no_encoder words = record { refusal = number STATE; state = words; out = 0 ∷ 0 ∷ [] }

abbrev pub bits_words : Bits → List ℕ
bits_words b = b.bits ∷ b.count ∷ []

abbrev pub nothing_encoded : Bits
nothing_encoded = record { bits = 0; count = 0 }

-- behind a body whose ones are odd or not this token leaves the ones odd or not, and is sent as these bits
abbrev pub Sends : Bool → Token → Bool → Bits → Type 0
Sends previous t odd b =
    sent (record { odd = previous }) t ≡ record { refusal = 0; encoder = record { odd = odd }; bits = b.bits; count = b.count }

unfoldable pub encode_left : List ℕ → ℕ → ℕ → Left
encode_left words kind value =
    pick (is_encoder words) (encoded (encode_answer (encoder_of words) (token_of kind value))) (no_encoder words)

pub record KeepsEncoders : Type 0 where
  pub back : (e : Encoder) → encoder_of (encoder_words e) ≡ e
  pub is_encoder_lem : (e : Encoder) → is_encoder (encoder_words e) ≡ true
  pub stays : (words : List ℕ) (kind value : ℕ) → Stays words (0 ∷ 0 ∷ []) (encode_left words kind value)
