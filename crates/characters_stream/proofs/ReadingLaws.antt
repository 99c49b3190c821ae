-- What waits once a body is whole: a decoder that holds it passes STATE, and knows from it whether the body's ones are odd.
-- Assumes nothing.
use mathlib.Core.Path.{◌≡◌, refl, sym, ap, ◌∙◌}
use mathlib.Core.Bool.{Bool, true, false}
use mathlib.Core.List.{List, [], ◌∷◌, ◌++◌}
use Prim.Native.Nat.{◌<◌}
use native.Mathlib.Omega.{arith}
use lib.ListN.{length}
use borrow.Author.Tests.{lt-ltb, le-ltb}
use Rattle.characters.specs.Bits.{differ, odd, number, bits_of}
use Rattle.characters.specs.Wire.{good_parity}
use Rattle.characters.specs.Decoder.{body_odd}
use Rattle.characters.specs.Refusals.{bad_waiting}
use Rattle.characters.proofs.BitLaws.{number_below, bits_number, odd_append}
use Rattle.characters.specs.declared.reports.Waiting.{Waiting}
use Rattle.characters_stream.specs.Meaning.{Reading, byte, fct, eop, eep, esc, null, time_code, Ended, first, next}

-- eight bits make a number below 256, and are the eight bits of that number
eight_below : (body : List Bool) → length body ≡ 8 → number body < 256
eight_below body eight = rw eight at (number_below body)

eight_bits : (body : List Bool) → length body ≡ 8 → bits_of 8 (number body) ≡ body
eight_bits body eight = rw eight at (bits_number body)

-- a reading behind no ESC, where a test says that there is none
pub unescaped : {escape flag : Bool} {body : List Bool} {w : Waiting} → escape ≡ false →
    Reading false flag body w → Reading escape flag body w
unescaped plain reading = rw plain reading

pub reading_passes : {escape flag : Bool} {body : List Bool} {w : Waiting} → Reading escape flag body w →
    bad_waiting w ≡ false
reading_passes (byte {body} eight) = le-ltb 257 (number body) (omega (arith, eight_below body eight))
reading_passes fct = refl
reading_passes eop = refl
reading_passes eep = refl
reading_passes esc = refl
reading_passes null = refl
reading_passes (time_code eight) = refl

pub reading_odd : {escape flag : Bool} {body : List Bool} {w : Waiting} → Reading escape flag body w → body_odd w ≡ odd body
reading_odd (byte {body} eight) = rw (lt-ltb (number body) 256 (eight_below body eight)) (ap odd (eight_bits body eight))
reading_odd fct = refl
reading_odd eop = refl
reading_odd eep = refl
reading_odd esc = refl
reading_odd null = refl
reading_odd (time_code {body} eight) = ap odd (eight_bits body eight)

pub ended_passes : {bits body : List Bool} {w : Waiting} → Ended bits body w → bad_waiting w ≡ false
ended_passes (first found) = refl
ended_passes (next p flag ended good reading) = reading_passes reading

pub ended_odd : {bits body : List Bool} {w : Waiting} → Ended bits body w → body_odd w ≡ odd body
ended_odd (first found) = refl
ended_odd (next p flag ended good reading) = reading_odd reading

differ_false : (b : Bool) → differ b false ≡ b
differ_false true = refl
differ_false false = refl

-- the paper's parity, of the whole body, is the decoder's, of what waits
pub ended_parity : {bits body : List Bool} {w : Waiting} (p flag : Bool) → Ended bits body w →
    good_parity (body_odd w) p flag ≡ odd (body ++ p ∷ flag ∷ [])
ended_parity {body} p flag ended =
    ap (λ (o : Bool). good_parity o p flag) (ended_odd ended)
    ∙ sym (odd_append body (p ∷ flag ∷ []) ∙ ap (λ (f : Bool). differ (odd body) (differ p f)) (differ_false flag))
