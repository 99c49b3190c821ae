-- What one call with a tick does, and what a silence that is not too long does to the calls behind it: nothing.
-- Assumes nothing.
use mathlib.Core.Path.{◌≡◌, refl, ap, ◌∙◌}
use mathlib.Core.Bool.{Bool, false}
use mathlib.Core.List.{List, [], ◌∷◌, ◌++◌}
use Prim.Native.Nat.{ℕ, zero, suc, ◌+◌, ◌≤◌, ◌<◌}
use native.Mathlib.Omega.{arith}
use native.Mathlib.Numerals.{add-one}
use borrow.Author.Tests.{lt-ltb, le-ltb}
use Rattle.std.specs.Prelude.{Option, None, Some}
use Rattle.characters.specs.Decoder.{stops, silence, tick_step}
use Rattle.characters.specs.Refusals.{bad_phase, bad_decoder, is_stopped}
use Rattle.characters.specs.Calls.{bit_answer, tick_answer, decode_accepted, decode_refused}
use Rattle.characters.specs.declared.reports.Report.{Report}
use Rattle.characters.specs.declared.reports.Report.TheVariants.{Disconnect}
use Rattle.characters.specs.States.{Phase, Decoder, Fresh, Heard, Stopped, Decoded}
use Rattle.characters_stream.specs.GoodStates.{Call, bit, tick, left, left_all}
use Rattle.characters_stream.specs.Ticks.{told}
use Rattle.characters_stream.proofs.SilenceLaws.{ticks}

-- `Tells d call r d'`: the call on d reports r and leaves d'
pub record Tells (d : Decoder) (call : Call) (r : Option Report) (d' : Decoder) : Type 0 where
  pub tells : told d call ≡ r
  pub leaves : left d call ≡ d'

pub fresh_tick : Tells Fresh tick None Fresh
unfolding tick_answer decode_accepted
fresh_tick = record { tells = refl; leaves = refl }

pub stopped_tells : (call : Call) → Tells Stopped call None Stopped
unfolding bit_answer tick_answer decode_refused
stopped_tells (bit b) = record { tells = refl; leaves = refl }
stopped_tells tick = record { tells = refl; leaves = refl }

tick_accepted : (d : Decoder) {r : Option Report} {d' : Decoder} → bad_decoder d ≡ false → is_stopped d ≡ false →
    tick_step d ≡ record { decoder = d'; report = r } → Tells d tick r d'
unfolding tick_answer decode_accepted
tick_accepted d {r} {d'} passes going step =
    let e : tick_answer d ≡ record { refusal = 0; decoder = d'; report = r } = rw (passes, going, step) in
    record { tells = ap (λ (a : Decoded). a.report) e; leaves = ap (λ (a : Decoded). a.decoder) e }

pub tick_counts : (p : Phase) (k : ℕ) → bad_phase p ≡ false → k < 8 → Tells (Heard p k) tick None (Heard p (suc k))
unfolding silence
tick_counts p k passes more =
    tick_accepted (Heard p k) (rw (le-ltb 8 k (omega arith)) passes) refl (rw (lt-ltb k 8 more, add-one k))

pub tick_ends : (p : Phase) → bad_phase p ≡ false → Tells (Heard p 8) tick (Some Disconnect) Stopped
unfolding silence stops
tick_ends p passes = tick_accepted (Heard p 8) passes refl refl

pub bit_heard : (p : Phase) (k : ℕ) (b : Bool) → bad_phase p ≡ false → k ≤ 8 →
    bit_answer (Heard p k) b ≡ bit_answer (Heard p 0) b
unfolding bit_answer
bit_heard p k b passes few = rw (le-ltb 8 k few, passes)

-- what is reported on the last of some calls
unfoldable pub last_told : Decoder → List Call → Option Report
last_told d [] = None
last_told d (c ∷ []) = told d c
last_told d (c ∷ c' ∷ calls) = last_told (left d c) (c' ∷ calls)

pub last_behind : (d : Decoder) (xs : List Call) (c : Call) (ys : List Call) →
    last_told d (xs ++ c ∷ ys) ≡ last_told (left_all d xs) (c ∷ ys)
unfolding last_told
last_behind d [] c ys = refl
last_behind d (x ∷ []) c ys = refl
last_behind d (x ∷ y ∷ xs) c ys = last_behind (left d x) (y ∷ xs) c ys

pub left_append : (d : Decoder) (xs ys : List Call) → left_all d (xs ++ ys) ≡ left_all (left_all d xs) ys
left_append d [] ys = refl
left_append d (x ∷ xs) ys = left_append (left d x) xs ys

-- from k ticks on, the ninth reports the disconnect
pub runs_out : (p : Phase) (k more : ℕ) → bad_phase p ≡ false → k + more ≡ 8 →
    last_told (Heard p k) (tick ∷ ticks more) ≡ Some Disconnect
unfolding last_told
runs_out p k zero passes eight =
    let e : k ≡ 8 = omega arith in
    ap (λ (n : ℕ). told (Heard p n) tick) e ∙ (tick_ends p passes).tells
runs_out p k (suc more) passes eight =
    ap (λ (d : Decoder). last_told d (tick ∷ ticks more)) (tick_counts p k passes (omega arith)).leaves
    ∙ runs_out p (suc k) more passes (omega arith)
