-- The starred cases of characters hold: each is a decoder fed with some twenty bits, and antt computes it.
-- Assumes nothing.
use mathlib.Core.Path.{refl}
use Rattle.characters.specs.Decoder.{goes_on, stops, hunts, flagged, data_bit}
use Rattle.characters.specs.Calls.{bit_answer, decode_accepted, decode_refused}
use Rattle.characters_stream.specs.Feeding.{fed}
use Rattle.characters_stream.specs.Cases.{CharacterCases}

pub character_cases : CharacterCases
unfolding fed bit_answer decode_accepted decode_refused goes_on stops hunts flagged data_bit
character_cases = record { parity = refl; escape = refl; time_code = refl }
