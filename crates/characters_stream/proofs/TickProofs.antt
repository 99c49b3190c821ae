-- Called with bits and ticks, the decoder is left as the bits alone leave it, but for the count of the ticks behind the last
-- bit, until nine of them or an error stop it. So each call reports what the rules give, and what they give it reports.
-- Assumes nothing.
use mathlib.Core.Path.{◌≡◌, refl, sym, ap, subst, ◌∙◌}
use mathlib.Core.Bool.{Bool, false, true≢false}
use mathlib.Core.List.{List, [], ◌∷◌, ◌++◌, append_assoc, concat-ne-nil}
use Prim.Native.Nat.{ℕ, suc, ◌≤◌, ◌<◌}
use native.Mathlib.Omega.{arith}
use native.Mathlib.Decide.{dec_lt}
use Rattle.std.specs.Prelude.{Option, None, Some}
use Rattle.characters.specs.Refusals.{bad_phase, is_stopped}
use Rattle.characters.specs.Calls.{bit_answer}
use Rattle.characters.specs.declared.reports.Report.{Report}
use Rattle.characters.specs.declared.reports.Report.TheVariants.{Disconnect}
use Rattle.characters.specs.States.{Phase, Decoder, Fresh, Heard, Stopped, Decoded}
use Rattle.characters_stream.specs.Feeding.{after}
use Rattle.characters_stream.specs.GoodStates.{Call, bit, tick, left, left_all}
use Rattle.characters_stream.specs.Ticks.{bits_in, nine_ticks, WasSilent, Failed, ReportedOn, on_bit, on_tick}
use Rattle.characters_stream.specs.Ticks.{told, SaysWhatCallsMean}
use Rattle.characters_stream.proofs.LastLaws.{by_last}
use Rattle.characters_stream.proofs.GoodStateLaws.{stays_good, after_good}
use Rattle.characters_stream.proofs.FeedLaws.{final, after_append, final_behind}
use Rattle.characters_stream.proofs.RuleLaws.{reported, failed_stopped}
use Rattle.characters_stream.proofs.StateLaws.{Given, reached, reports_given, failed_still, stopped_failed}
use Rattle.characters_stream.proofs.StateLaws.{Bitten, going, gone, at_bitten}
use Rattle.characters_stream.proofs.SilenceLaws.{ticks, ticks_suc, still_not_silent, silent_still, ticks_silent}
use Rattle.characters_stream.proofs.SilenceLaws.{bits_append, bits_ticks}
use Rattle.characters_stream.proofs.TickLaws.{Tells, fresh_tick, stopped_tells, tick_counts, tick_ends, bit_heard}
use Rattle.characters_stream.proofs.TickLaws.{last_told, last_behind, left_append, runs_out}

-- `Stands calls d`: d is the state in which these calls leave a fresh decoder, told by the rules
data Stands : List Call → Decoder → Type 0 where
  unheard : (k : ℕ) → Stands (ticks k) Fresh
  heard : (calls : List Call) (b : Bool) (k : ℕ) {p : Phase} → (WasSilent calls → ⊥) → k ≤ 8 →
      after Fresh (bits_in calls ++ b ∷ []) ≡ Heard p 0 → Stands (calls ++ bit b ∷ ticks k) (Heard p k)
  silenced : {calls : List Call} → WasSilent calls → Stands calls Stopped
  errored : {calls : List Call} → Failed (bits_in calls) → Stands calls Stopped

heard_passes : (bits : List Bool) {p : Phase} → after Fresh bits ≡ Heard p 0 → bad_phase p ≡ false
heard_passes bits e = (rw e at (after_good Fresh bits stays_good.0)).passes

bits_last : (calls : List Call) (b : Bool) (k : ℕ) → bits_in (calls ++ bit b ∷ ticks k) ≡ bits_in calls ++ b ∷ []
bits_last calls b k = bits_append calls (bit b ∷ ticks k) ∙ rw (bits_ticks k)

-- up to a disconnect, a bit does what it does without the ticks
same_bit : {calls : List Call} {d : Decoder} → Stands calls d → (WasSilent calls → ⊥) → (b : Bool) →
    bit_answer d b ≡ bit_answer (after Fresh (bits_in calls)) b
unfolding after
same_bit (unheard k) none b = rw (bits_ticks k)
same_bit (heard calls c k {p} first few e) none b =
    bit_heard p k b (heard_passes (bits_in calls ++ c ∷ []) e) few ∙ rw (bits_last calls c k, e)
same_bit (silenced silent) none b = absurd (none silent)
same_bit (errored failed) none b = rw (failed_stopped failed)

bit_tells : {calls : List Call} {d : Decoder} → Stands calls d → (WasSilent calls → ⊥) → (b : Bool) →
    Tells d (bit b) (final Fresh (bits_in calls ++ b ∷ [])) (after Fresh (bits_in calls ++ b ∷ []))
unfolding after final
bit_tells {calls} at none b =
    record {
      tells = ap (λ (a : Decoded). a.report) (same_bit at none b) ∙ sym (final_behind Fresh (bits_in calls) b []);
      leaves = ap (λ (a : Decoded). a.decoder) (same_bit at none b) ∙ sym (after_append Fresh (bits_in calls) (b ∷ []));
    }

-- what is reported is given by a rule
abbrev GivenOn : List Call → Option Report → Type 0
GivenOn calls None = Unit {0}
GivenOn calls (Some r) = ReportedOn calls r

-- `Keeps calls d call`: the call on d keeps to that, these being the calls with it
record Keeps (calls : List Call) (d : Decoder) (call : Call) : Type 0 where
  at : Stands calls (left d call)
  given : GivenOn calls (told d call)

keeps : {calls : List Call} {d d' : Decoder} {call : Call} {r : Option Report} →
    Tells d call r d' → Stands calls d' → GivenOn calls r → Keeps calls d call
keeps tells at given = record { at = rw tells.leaves at; given = rw tells.tells given }

bit_given : (calls : List Call) (b : Bool) (r : Option Report) → (WasSilent calls → ⊥) → Given (bits_in calls ++ b ∷ []) r →
    GivenOn (calls ++ bit b ∷ []) r
bit_given calls b None none given = tt
bit_given calls b (Some r) none given = on_bit calls b none given

bit_left_lem : (calls : List Call) (b : Bool) {d : Decoder} → (WasSilent calls → ⊥) → Bitten d →
    after Fresh (bits_in calls ++ b ∷ []) ≡ d → Stands (calls ++ bit b ∷ []) d
bit_left_lem calls b none (going p) e = heard calls b 0 none (omega arith) e
bit_left_lem calls b none gone e =
    errored {calls = calls ++ bit b ∷ []}
    (rw (bits_last calls b 0) (stopped_failed (rw e at (reached (bits_in calls ++ b ∷ [])))))

bit_keeps : {calls : List Call} {d : Decoder} → Stands calls d → (WasSilent calls → ⊥) → (b : Bool) →
    Keeps (calls ++ bit b ∷ []) d (bit b)
bit_keeps {calls} at none b =
    let bits = bits_in calls ++ b ∷ [] in
    keeps (bit_tells at none b)
    (bit_left_lem calls b none (at_bitten (reached bits) (concat-ne-nil b (bits_in calls))) refl)
    (bit_given calls b (final Fresh bits) none (reports_given (bits_in calls) b))

-- one tick more behind the last bit
tick_last : (calls : List Call) (b : Bool) (k : ℕ) →
    (calls ++ bit b ∷ ticks k) ++ tick ∷ [] ≡ calls ++ bit b ∷ ticks (suc k)
tick_last calls b k =
    append_assoc calls (bit b ∷ ticks k) (tick ∷ []) ∙ ap (λ (l : List Call). calls ++ bit b ∷ l) (sym (ticks_suc k))

not_failed : {bits : List Bool} {p : Phase} → after Fresh bits ≡ Heard p 0 → Failed bits → ⊥
not_failed e failed = true≢false (ap is_stopped (sym (failed_stopped failed) ∙ e))

tick_keeps : (calls : List Call) (b : Bool) (k : ℕ) {p : Phase} → (WasSilent calls → ⊥) → k ≤ 8 →
    after Fresh (bits_in calls ++ b ∷ []) ≡ Heard p 0 → Keeps (calls ++ bit b ∷ ticks (suc k)) (Heard p k) tick
tick_keeps calls b k {p} none few e = by (dec_lt k 8)
  where
    passes : bad_phase p ≡ false
    passes = heard_passes (bits_in calls ++ b ∷ []) e

    by : Dec (k < 8) → Keeps (calls ++ bit b ∷ ticks (suc k)) (Heard p k) tick
    by (yes more) = keeps (tick_counts p k passes more) (heard calls b (suc k) none more e) tt
    by (no all) =
        let eight : 8 ≡ k = omega (arith, all) in
        subst (λ (n : ℕ). Keeps (calls ++ bit b ∷ ticks (suc n)) (Heard p n) tick) eight
        (keeps (tick_ends p passes) (silenced (calls, b, [], refl)) (on_tick calls b none (not_failed e)))

next_keeps : {calls : List Call} {d : Decoder} → Stands calls d → (call : Call) → Keeps (calls ++ call ∷ []) d call
next_keeps (unheard k) (bit b) = bit_keeps (unheard k) (ticks_silent k) b
next_keeps (unheard k) tick = rw (← ticks_suc k) (keeps fresh_tick (unheard (suc k)) tt)
next_keeps (heard calls c k none few e) (bit b) =
    bit_keeps (heard calls c k none few e) (still_not_silent calls c k few none) b
next_keeps (heard calls c k none few e) tick = rw (tick_last calls c k) (tick_keeps calls c k none few e)
next_keeps (silenced {calls} silent) call = keeps (stopped_tells call) (silenced (silent_still calls (call ∷ []) silent)) tt
next_keeps (errored {calls} failed) call =
    keeps (stopped_tells call)
    (errored {calls = calls ++ call ∷ []}
    (rw (bits_append calls (call ∷ [])) (failed_still (bits_in calls) (bits_in (call ∷ [])) failed)))
    tt

all_left : (calls : List Call) → Stands calls (left_all Fresh calls)
all_left =
    by_last (λ (calls : List Call). Stands calls (left_all Fresh calls)) (unheard 0)
    (λ calls call at. rw (left_append Fresh calls (call ∷ [])) (next_keeps at call).at)

-- what a rule gives is reported
meant : {calls : List Call} {r : Report} → ReportedOn calls r → last_told Fresh calls ≡ Some r
unfolding last_told
meant (on_bit calls b none at) =
    last_behind Fresh calls (bit b) [] ∙ (bit_tells (all_left calls) none b).tells ∙ reported at
meant (on_tick calls b none sound) =
    last_behind Fresh calls (bit b) nine_ticks
    ∙ ap (λ (d : Decoder). last_told d nine_ticks) (bit_tells (all_left calls) none b).leaves
    ∙ by (at_bitten (reached bits) (concat-ne-nil b (bits_in calls))) refl
  where
    bits : List Bool
    bits = bits_in calls ++ b ∷ []

    by : {d : Decoder} → Bitten d → after Fresh bits ≡ d → last_told d nine_ticks ≡ Some Disconnect
    by (going p) e = runs_out p 0 8 (heard_passes bits e) refl
    by gone e = absurd (sound (stopped_failed (rw e at (reached bits))))

pub says_what_calls_mean : SaysWhatCallsMean
unfolding last_told
says_what_calls_mean calls call r = (
  λ e. rw e at (next_keeps (all_left calls) call).given,
  λ at. sym (last_behind Fresh calls call []) ∙ meant at,
)
