-- A call that is refused leaves the decoder as it was; one that is not leaves a good one, phase by phase.
-- Assumes nothing.
use mathlib.Core.Path.{◌≡◌, refl}
use mathlib.Core.Bool.{Bool, true, false, ◌||◌, true≢false}
use mathlib.Core.List.{List, [], ◌∷◌}
use Prim.Native.Nat.{ℕ, ◌+◌, ◌%◌, ◌<◌}
use native.Mathlib.Omega.{arith}
use lib.Dec.{eqb, ltb}
use borrow.Author.Tests.{eqb-false, ltb-true, ne_eqb, le-ltb}
use Rattle.vocabulary.specs.Choice.{pick}
use Rattle.characters.specs.Wire.{good_parity}
use Rattle.characters.specs.Decoder.{goes_on, stops, shifted, hunted_for, no_bits, hunts, body_odd, flagged, data_token}
use Rattle.characters.specs.Decoder.{data_bit}
use Rattle.characters.specs.Decoder.{plain, second_bit, in_phase, bit_step, silence, tick_step}
use Rattle.characters.specs.Refusals.{bad_waiting, bad_phase, decoder_refusal}
use Rattle.characters.specs.Calls.{bit_answer, tick_answer, decode_accepted, decode_refused}
use Rattle.characters.proofs.BitLaws.{bit_le}
use Rattle.characters.specs.declared.reports.Waiting.{Waiting}
use Rattle.characters.specs.declared.reports.Waiting.TheVariants.{Whole}
use Rattle.characters.specs.States.{Phase, Hunting, Between, Parity, Data, Control, Second, Decoder, Fresh, Heard}
use Rattle.characters.specs.States.{Stopped, Decoded, Step}
use Rattle.characters_stream.specs.Feeding.{after}
use Rattle.characters_stream.specs.GoodStates.{Good, EightPlaces, Call, bit, tick, left, left_all, StaysGood}

-- what holds of both sides of a choice, of each where its test lets it be taken, holds of the choice
either_way : {A : Type 0} (P : A → Type 0) (test : Bool) (this that : A) →
    (test ≡ true → P this) → (test ≡ false → P that) → P (pick test this that)
either_way P true this that f g = f refl
either_way P false this that f g = g refl

abbrev Leaves : Step → Type 0
Leaves s = Good s.decoder

hunts_good : (places : ℕ) (b : Bool) → Leaves (hunts places b)
unfolding hunts goes_on
hunts_good places b =
    either_way Leaves (eqb (shifted places b) hunted_for) _ _
    (λ e. record { passes = refl; places = tt })
    (λ e. record { passes = e; places = tt })

flagged_good : (w : Waiting) (p flag : Bool) → Leaves (flagged w p flag)
unfolding flagged goes_on stops
flagged_good w p true =
    either_way Leaves (good_parity (body_odd w) p true) _ _
    (λ e. record { passes = refl; places = tt })
    (λ e. record { passes = refl; places = tt })
flagged_good w p false =
    either_way Leaves (good_parity (body_odd w) p false) _ _
    (λ e. record { passes = refl; places = omega arith })
    (λ e. record { passes = refl; places = tt })

-- seven of the eight places come from eight
shifted_below : (places : ℕ) (b : Bool) → places < 256 → shifted places b < 256
shifted_below places b h = omega (arith, bit_le b)

whole_good : (escape : Bool) (v : ℕ) → v < 256 → bad_waiting (Whole (data_token escape v)) ≡ false
whole_good true v h = refl
whole_good false v h = le-ltb 257 v (omega arith)

-- a place that is taken, and not the bottom one, goes down one place and stays taken
data_good : (escape : Bool) (places : ℕ) (b : Bool) → eqb places 0 ≡ false → places < 256 → Leaves (data_bit escape places b)
unfolding data_bit goes_on
data_good escape places b marked h =
    either_way Leaves (eqb (places % 2) 1) _ _
    (λ e. record { passes = whole_good escape (shifted places b) (shifted_below places b h); places = tt })
    (λ e. record {
      passes = ne_eqb (shifted places b) 0 (λ z. omega (arith, eqb-false (places % 2) 1 e, eqb-false places 0 marked));
      places = shifted_below places b h;
    })

plain_good : (a b : Bool) → bad_waiting (plain a b) ≡ false
plain_good false false = refl
plain_good false true = refl
plain_good true false = refl
plain_good true true = refl

second_good : (escape a b : Bool) → Leaves (second_bit escape a b)
unfolding goes_on stops
second_good false a b = record { passes = plain_good a b; places = tt }
second_good true false false = record { passes = refl; places = tt }
second_good true false true = record { passes = refl; places = tt }
second_good true true b = record { passes = refl; places = tt }

phase_good : (p : Phase) (silent : ℕ) (b : Bool) → bad_phase p ≡ false → EightPlaces (Heard p silent) → Leaves (in_phase p b)
unfolding goes_on
phase_good (Hunting places) silent b passes h = hunts_good places b
phase_good (Between w) silent b passes h = record { passes = passes; places = tt }
phase_good (Parity w p) silent b passes h = flagged_good w p b
phase_good (Data escape places) silent b passes h = data_good escape places b passes h
phase_good (Control escape) silent b passes h = record { passes = refl; places = tt }
phase_good (Second escape a) silent b passes h = second_good escape a b

-- the phase of a good decoder passes, however long it has been silent
phase_passes : (long phase : Bool) → long || phase ≡ false → phase ≡ false
phase_passes true phase e = absurd (true≢false e)
phase_passes false phase e = e

bit_good : (d : Decoder) (b : Bool) → Good d → Leaves (bit_step d b)
unfolding stops
bit_good Fresh b g = hunts_good no_bits b
bit_good (Heard p silent) b g = phase_good p silent b (phase_passes (ltb 8 silent) (bad_phase p) g.passes) g.places
bit_good Stopped b g = record { passes = refl; places = tt }

-- nor does the silence count for the places
same_places : (p : Phase) (silent silent' : ℕ) → EightPlaces (Heard p silent) → EightPlaces (Heard p silent')
same_places (Hunting places) silent silent' h = h
same_places (Between w) silent silent' h = h
same_places (Parity w p) silent silent' h = h
same_places (Data escape places) silent silent' h = h
same_places (Control escape) silent silent' h = h
same_places (Second escape a) silent silent' h = h

tick_good : (d : Decoder) → Good d → Leaves (tick_step d)
unfolding stops silence
tick_good Fresh g = g
tick_good (Heard p silent) g =
    either_way Leaves (ltb silent 8) _ _
    (λ e. record {
      passes =
          rw (le-ltb 8 (silent + 1) (omega (arith, ltb-true silent 8 e)))
          (phase_passes (ltb 8 silent) (bad_phase p) g.passes);
      places = same_places p silent (silent + 1) g.places;
    })
    (λ e. record { passes = refl; places = tt })
tick_good Stopped g = record { passes = refl; places = tt }

left_good : (d : Decoder) (call : Call) → Good d → Good (left d call)
unfolding bit_answer tick_answer decode_accepted decode_refused
left_good d (bit b) g =
    either_way (λ (a : Decoded). Good a.decoder) (eqb (decoder_refusal d) 0) _ _ (λ e. bit_good d b g) (λ e. g)
left_good d tick g =
    either_way (λ (a : Decoded). Good a.decoder) (eqb (decoder_refusal d) 0) _ _ (λ e. tick_good d g) (λ e. g)

all_good : (d : Decoder) (calls : List Call) → Good d → Good (left_all d calls)
all_good d [] g = g
all_good d (call ∷ calls) g = all_good (left d call) calls (left_good d call g)

pub stays_good : StaysGood
stays_good = (record { passes = refl; places = tt }, all_good)

pub after_good : (d : Decoder) (bits : List Bool) → Good d → Good (after d bits)
unfolding after
after_good d [] g = g
after_good d (b ∷ bits) g = after_good (bit_answer d b).decoder bits (left_good d (bit b) g)
