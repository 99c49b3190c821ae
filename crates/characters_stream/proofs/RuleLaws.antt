-- What a rule says is reported on the last of some bits, the decoder reports there: the bits up to a whole character leave
-- it between two characters, and from there each rule is a few calls.
-- Assumes nothing.
use mathlib.Core.Path.{◌≡◌, refl, sym, ap, ◌∙◌}
use mathlib.Core.Bool.{Bool, true, false, true≢false}
use mathlib.Core.List.{List, [], ◌∷◌, ◌++◌, append-nil}
use native.Mathlib.Omega.{arith}
use lib.ListN.{length, length-append}
use Rattle.vocabulary.specs.declared.Token.TheVariants.{Null}
use Rattle.std.specs.Prelude.{Some}
use Rattle.characters.specs.declared.reports.Report.{Report}
use Rattle.characters.specs.declared.reports.Report.TheVariants.{Got}
use Rattle.characters.specs.declared.reports.Waiting.{Waiting}
use Rattle.characters.specs.declared.reports.Waiting.TheVariants.{Reported, Whole, Esc}
use Rattle.characters.specs.States.{Between, Parity, Decoder, Fresh, Heard, Stopped}
use Rattle.characters_stream.specs.Meaning.{eight_bits, FirstNull, Ended, first, next}
use Rattle.characters_stream.specs.Meaning.{ReportedAt, first_null, closed, bad_parity, bad_escape}
use Rattle.characters_stream.specs.Feeding.{after}
use Rattle.characters_stream.specs.Ticks.{is_error, Failed}
use Rattle.characters_stream.proofs.CallLaws.{parity_comes, flag_closes, flag_spoils, control_comes, second_spoils}
use Rattle.characters_stream.proofs.CallLaws.{stopped_stays}
use Rattle.characters_stream.proofs.ReadingLaws.{ended_passes, ended_parity}
use Rattle.characters_stream.proofs.FeedLaws.{final, after_bit, after_last, final_bit, final_last, after_append}
use Rattle.characters_stream.proofs.FeedLaws.{final_behind}
use Rattle.characters_stream.proofs.RunLaws.{run_none, character_run}
use Rattle.characters_stream.proofs.HuntLaws.{fresh_hunts, first_null_run}

first_null_found : (bits : List Bool) → FirstNull bits →
    (after Fresh bits ≡ Heard (Between Reported) 0) × (final Fresh bits ≡ Some (Got Null))
first_null_found [] null =
    absurd (omega (arith, ap length null.found.1, length-append null.found.0 eight_bits))
first_null_found (b ∷ bits) null = first_null_run bits b fresh_hunts null

ended_after : {bits body : List Bool} {w : Waiting} → Ended bits body w → after Fresh bits ≡ Heard (Between w) 0
ended_after (first {bits} null) = (first_null_found bits null).0
ended_after (next {bits} {body} {body'} {w} p flag ended good reading) =
    after_append Fresh bits (p ∷ flag ∷ body')
    ∙ rw (ended_after ended, ← append-nil body')
    (character_run p (ended_passes ended) (ended_parity p flag ended ∙ good) reading run_none).leaves

-- a parity bit and what is behind it come to a decoder that holds what waits
after_ended : {bits body : List Bool} {w : Waiting} (p : Bool) (rest : List Bool) → Ended bits body w →
    after Fresh (bits ++ p ∷ rest) ≡ after (Heard (Parity w p) 0) rest
after_ended {bits} {w} p rest ended =
    after_append Fresh bits (p ∷ rest)
    ∙ ap (λ (d : Decoder). after d (p ∷ rest)) (ended_after ended)
    ∙ after_bit rest (parity_comes w p (ended_passes ended))

final_ended : {bits body : List Bool} {w : Waiting} (p c : Bool) (rest : List Bool) → Ended bits body w →
    final Fresh (bits ++ p ∷ c ∷ rest) ≡ final (Heard (Parity w p) 0) (c ∷ rest)
final_ended {bits} {w} p c rest ended =
    final_behind Fresh bits p (c ∷ rest)
    ∙ ap (λ (d : Decoder). final d (p ∷ c ∷ rest)) (ended_after ended)
    ∙ final_bit c rest (parity_comes w p (ended_passes ended))

not_true : (b : Bool) → (b ≡ true → ⊥) → b ≡ false
not_true true other = absurd (other refl)
not_true false other = refl

pub reported : {bits : List Bool} {r : Report} → ReportedAt bits r → final Fresh bits ≡ Some r
reported (first_null {bits} null) = (first_null_found bits null).1
reported (closed {t} p flag ended good) =
    final_ended p flag [] ended
    ∙ final_last (flag_closes (Whole t) p flag (ended_passes ended) (ended_parity p flag ended ∙ good))
reported (bad_parity {body} {w} p flag ended bad) =
    final_ended p flag [] ended
    ∙ final_last (flag_spoils w p flag (ended_passes ended) (ended_parity p flag ended ∙ not_true _ bad))
reported (bad_escape p a b ended good other) =
    final_ended p true (a ∷ b ∷ []) ended
    ∙ final_bit a (b ∷ []) (flag_closes Esc p true refl (ended_parity p true ended ∙ good))
    ∙ final_bit b [] (control_comes true a)
    ∙ final_last (second_spoils a b other)

-- an error stops it, and it stays stopped
error_stops : {bits : List Bool} {r : Report} → ReportedAt bits r → is_error r ≡ true → after Fresh bits ≡ Stopped
error_stops (first_null null) error = absurd (true≢false (sym error))
error_stops (closed p flag ended good) error = absurd (true≢false (sym error))
error_stops (bad_parity {bits} {w} p flag ended bad) error =
    after_ended p (flag ∷ []) ended
    ∙ after_last (flag_spoils w p flag (ended_passes ended) (ended_parity p flag ended ∙ not_true _ bad))
error_stops (bad_escape p a b ended good other) error =
    after_ended p (true ∷ a ∷ b ∷ []) ended
    ∙ after_bit (a ∷ b ∷ []) (flag_closes Esc p true refl (ended_parity p true ended ∙ good))
    ∙ after_bit (b ∷ []) (control_comes true a)
    ∙ after_last (second_spoils a b other)

stopped_after : (bits : List Bool) → after Stopped bits ≡ Stopped
unfolding after
stopped_after [] = refl
stopped_after (b ∷ bits) = after_bit bits (stopped_stays b) ∙ stopped_after bits

pub failed_stopped : {bits : List Bool} → Failed bits → after Fresh bits ≡ Stopped
failed_stopped (before, rest, r, e, reported, error) =
    ap (after Fresh) e ∙ after_append Fresh before rest
    ∙ ap (λ (d : Decoder). after d rest) (error_stops reported error) ∙ stopped_after rest
