-- What the words of a decoder and of an encoder mean, and what is answered in those terms.
-- Assumes nothing.
use Rattle.std.specs.Prelude.{ℕ, Bool, Option}
use Rattle.characters.specs.declared.reports.Report.{Report}
use Rattle.characters.specs.declared.reports.Waiting.{Waiting}

-- where in a character the next bit falls
pub data Phase : Type 0 where
  -- before the first NULL: the last eight bits, the oldest least significant
  Hunting : ℕ → Phase
  -- the next bit is a parity bit
  Between : Waiting → Phase
  -- the next bit is a flag, and this was the parity bit
  Parity : Waiting → Bool → Phase
  -- in a data body, behind an ESC or not: the bits so far at the top, a mark below them
  Data : Bool → ℕ → Phase
  -- in a control body, behind an ESC or not
  Control : Bool → Phase
  -- the same, and this was its first bit
  Second : Bool → Bool → Phase

pub data Decoder : Type 0 where
  -- no bit yet
  Fresh : Decoder
  -- the ticks since the last bit, beside the phase
  Heard : Phase → ℕ → Decoder
  -- an error was reported
  Stopped : Decoder

pub record Step : Type 0 where
  pub decoder : Decoder
  pub report : Option Report

pub record Decoded : Type 0 where
  pub refusal : ℕ
  pub decoder : Decoder
  pub report : Option Report

-- whether the ones in the last body are odd in number: any value is a state
pub record Encoder : Type 0 where
  pub odd : Bool

-- the bits of a token, the first sent least significant, and their count
pub record Encoded : Type 0 where
  pub refusal : ℕ
  pub encoder : Encoder
  pub bits : ℕ
  pub count : ℕ
