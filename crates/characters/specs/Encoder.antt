-- 01, Characters on the wire, Encoder: "one of NULL, FCT, N-Char, Time-Code and the parity of the last body give the bits,
-- their count and the new parity."
-- Assumes nothing.
use Rattle.std.specs.Prelude.{false, length}
use Rattle.vocabulary.specs.declared.Token.{Token}
use Rattle.characters.specs.Bits.{number}
use Rattle.characters.specs.Wire.{characters_of, last_odd, wire_of}
use Rattle.characters.specs.States.{Encoder, Encoded}

-- "Before the first character the previous body counts as 00": its ones are not odd.
unfoldable pub fresh_encoder : Encoder
fresh_encoder = record { odd = false }

-- what is answered of a token that is not refused
unfoldable pub sent : Encoder → Token → Encoded
sent e t =
    record {
      refusal = 0;
      encoder = record { odd = last_odd e.odd (characters_of t) };
      bits = number (wire_of e.odd t);
      count = length (wire_of e.odd t);
    }
