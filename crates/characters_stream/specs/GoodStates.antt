-- A decoder as our calls left it is never refused as STATE.
-- Assumes nothing.
use Rattle.std.specs.Prelude.{◌≡◌, Bool, false, List, [], ◌∷◌, ◌<◌}
use Rattle.characters.specs.Refusals.{bad_decoder}
use Rattle.characters.specs.Calls.{bit_answer, tick_answer}
use Rattle.characters.specs.States.{Hunting, Between, Parity, Data, Control, Second, Decoder, Fresh, Heard, Stopped}

-- Eight places hold eight bits: the one number of a decoder whose size a rule needs.
abbrev pub EightPlaces : Decoder → Type 0
EightPlaces Fresh = Unit {0}
EightPlaces (Heard (Hunting places) silent) = Unit {0}
EightPlaces (Heard (Between w) silent) = Unit {0}
EightPlaces (Heard (Parity w p) silent) = Unit {0}
EightPlaces (Heard (Data escape places) silent) = places < 256
EightPlaces (Heard (Control escape) silent) = Unit {0}
EightPlaces (Heard (Second escape a) silent) = Unit {0}
EightPlaces Stopped = Unit {0}

-- what STATE does not refuse
pub record Good (d : Decoder) : Type 0 where
  pub passes : bad_decoder d ≡ false
  pub places : EightPlaces d

-- a call on a decoder
pub data Call : Type 0 where
  bit : Bool → Call
  tick : Call

abbrev pub left : Decoder → Call → Decoder
left d (bit b) = (bit_answer d b).decoder
left d tick = (tick_answer d).decoder

abbrev pub left_all : Decoder → List Call → Decoder
left_all d [] = d
left_all d (call ∷ calls) = left_all (left d call) calls

abbrev pub StaysGood : Type 0
StaysGood = Good Fresh × ((d : Decoder) (calls : List Call) → Good d → Good (left_all d calls))
