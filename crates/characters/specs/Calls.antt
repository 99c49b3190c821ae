-- What each call on characters answers: the refusal if there is one, else what the rules give. A refused call hands back the
-- state that it was given, and its other answers are zero.
-- Assumes nothing.
use Rattle.std.specs.Prelude.{ℕ, Bool, eqb, None}
use Rattle.vocabulary.specs.Choice.{pick}
use Rattle.vocabulary.specs.declared.Token.{Token}
use Rattle.characters.specs.Encoder.{sent}
use Rattle.characters.specs.Decoder.{bit_step, tick_step}
use Rattle.characters.specs.Refusals.{decoder_refusal, encoder_refusal}
use Rattle.characters.specs.States.{Encoder, Encoded, Decoder, Decoded, Step}

unfoldable pub encode_refused : Encoder → ℕ → Encoded
encode_refused e n = record { refusal = n; encoder = e; bits = 0; count = 0 }

unfoldable pub encode_answer : Encoder → Token → Encoded
encode_answer e t = pick (eqb (encoder_refusal t) 0) (sent e t) (encode_refused e (encoder_refusal t))

unfoldable pub decode_refused : Decoder → ℕ → Decoded
decode_refused d n = record { refusal = n; decoder = d; report = None }

unfoldable pub decode_accepted : Step → Decoded
decode_accepted s = record { refusal = 0; decoder = s.decoder; report = s.report }

unfoldable pub bit_answer : Decoder → Bool → Decoded
bit_answer d b = pick (eqb (decoder_refusal d) 0) (decode_accepted (bit_step d b)) (decode_refused d (decoder_refusal d))

unfoldable pub tick_answer : Decoder → Decoded
tick_answer d = pick (eqb (decoder_refusal d) 0) (decode_accepted (tick_step d)) (decode_refused d (decoder_refusal d))
