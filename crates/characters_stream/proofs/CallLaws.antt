-- What one call with a bit answers, phase by phase, on a decoder that does not refuse it.
-- Assumes nothing.
use mathlib.Core.Path.{◌≡◌, refl}
use mathlib.Core.Bool.{Bool, true, false}
use mathlib.Core.List.{List, [], ◌∷◌, ◌++◌}
use Prim.Native.Nat.{ℕ, suc, ◌+◌}
use native.Mathlib.Omega.{arith}
use lib.Dec.{eqb}
use lib.ListN.{length}
use borrow.Author.Tests.{ne_eqb}
use Rattle.std.specs.Prelude.{Option, None, Some}
use Rattle.characters.specs.Bits.{number}
use Rattle.characters.specs.Wire.{good_parity}
use Rattle.characters.specs.Decoder.{goes_on, stops, body_odd, closes, escaped, body_of, flagged, data_token, data_bit}
use Rattle.characters.specs.Decoder.{bit_step}
use Rattle.characters.specs.Refusals.{bad_decoder, bad_waiting, is_stopped}
use Rattle.characters.specs.Calls.{bit_answer, decode_accepted, decode_refused}
use Rattle.characters.proofs.BitLaws.{lowest}
use Rattle.characters.specs.declared.reports.Report.{Report}
use Rattle.characters.specs.declared.reports.Report.TheVariants.{ParityError, EscapeError}
use Rattle.characters.specs.declared.reports.Waiting.{Waiting}
use Rattle.characters.specs.declared.reports.Waiting.TheVariants.{Whole}
use Rattle.characters.specs.States.{Between, Parity, Data, Control, Second, Decoder, Heard, Stopped}
use Rattle.characters_stream.specs.Meaning.{Reading, fct, eop, eep, esc, null}
use Rattle.characters_stream.proofs.RegisterLaws.{shifted_number, marked, marked_length, marked_snoc, marked_some}

-- `Answers d b r d'`: a call with the bit b on d reports r and leaves d'
pub record Answers (d : Decoder) (b : Bool) (r : Option Report) (d' : Decoder) : Type 0 where
  pub reports : (bit_answer d b).report ≡ r
  pub leaves : (bit_answer d b).decoder ≡ d'

-- what is not refused does what the rules say
pub accepts : (d : Decoder) (b : Bool) {r : Option Report} {d' : Decoder} → bad_decoder d ≡ false → is_stopped d ≡ false →
    bit_step d b ≡ record { decoder = d'; report = r } → Answers d b r d'
unfolding bit_answer decode_accepted
accepts d b passes going step = record { reports = rw (passes, going, step); leaves = rw (passes, going, step) }

pub parity_comes : (w : Waiting) (p : Bool) → bad_waiting w ≡ false →
    Answers (Heard (Between w) 0) p None (Heard (Parity w p) 0)
unfolding goes_on
parity_comes w p passes = accepts (Heard (Between w) 0) p passes refl refl

pub flag_closes : (w : Waiting) (p flag : Bool) → bad_waiting w ≡ false → good_parity (body_odd w) p flag ≡ true →
    Answers (Heard (Parity w p) 0) flag (closes w) (Heard (body_of (escaped w) flag) 0)
unfolding flagged goes_on
flag_closes w p flag passes good = accepts (Heard (Parity w p) 0) flag passes refl (rw good)

pub flag_spoils : (w : Waiting) (p flag : Bool) → bad_waiting w ≡ false → good_parity (body_odd w) p flag ≡ false →
    Answers (Heard (Parity w p) 0) flag (Some ParityError) Stopped
unfolding flagged stops
flag_spoils w p flag passes bad = accepts (Heard (Parity w p) 0) flag passes refl (rw bad)

-- the mark is always there, so STATE does not refuse the places
marked_passes : (k : ℕ) (ds : List Bool) → eqb (number (marked k ds)) 0 ≡ false
marked_passes k ds = ne_eqb (number (marked k ds)) 0 (marked_some k ds)

pub data_comes : (escape : Bool) (k : ℕ) (ds : List Bool) (b : Bool) → suc k + length ds ≡ 7 →
    Answers (Heard (Data escape (number (marked (suc k) ds))) 0) b None
    (Heard (Data escape (number (marked k (ds ++ b ∷ [])))) 0)
unfolding data_bit goes_on
data_comes escape k ds b seven =
    let e : length (marked k ds) ≡ 7 = omega (arith, marked_length k ds) in
    accepts (Heard (Data escape (number (marked (suc k) ds))) 0) b (marked_passes (suc k) ds) refl
    (rw (lowest false (number (marked k ds)), shifted_number false (marked k ds) b, marked_snoc k ds b))

pub data_whole : (escape : Bool) (ds : List Bool) (b : Bool) → length ds ≡ 7 →
    Answers (Heard (Data escape (number (marked 0 ds))) 0) b None
    (Heard (Between (Whole (data_token escape (number (ds ++ b ∷ []))))) 0)
unfolding data_bit goes_on
data_whole escape ds b seven =
    accepts (Heard (Data escape (number (marked 0 ds))) 0) b (marked_passes 0 ds) refl
    (rw (lowest true (number ds), shifted_number true ds b))

pub control_comes : (escape a : Bool) → Answers (Heard (Control escape) 0) a None (Heard (Second escape a) 0)
unfolding goes_on
control_comes escape a = accepts (Heard (Control escape) 0) a refl refl refl

pub second_whole : {escape a b : Bool} {w : Waiting} → Reading escape true (a ∷ b ∷ []) w →
    Answers (Heard (Second escape a) 0) b None (Heard (Between w) 0)
unfolding goes_on
second_whole fct = accepts (Heard (Second false false) 0) false refl refl refl
second_whole eop = accepts (Heard (Second false false) 0) true refl refl refl
second_whole eep = accepts (Heard (Second false true) 0) false refl refl refl
second_whole esc = accepts (Heard (Second false true) 0) true refl refl refl
second_whole null = accepts (Heard (Second true false) 0) false refl refl refl

pub second_spoils : (a b : Bool) → ((a ∷ b ∷ []) ≡ (false ∷ false ∷ []) → ⊥) →
    Answers (Heard (Second true a) 0) b (Some EscapeError) Stopped
unfolding stops
second_spoils false false other = absurd (other refl)
second_spoils false true other = accepts (Heard (Second true false) 0) true refl refl refl
second_spoils true b other = accepts (Heard (Second true true) 0) b refl refl refl

-- "After an error it is stopped until made fresh."
pub stopped_stays : (b : Bool) → Answers Stopped b None Stopped
unfolding bit_answer decode_refused
stopped_stays b = record { reports = refl; leaves = refl }
