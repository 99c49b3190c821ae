-- The words are refused or have a phase, and in each the bit makes of them what it makes of the decoder that they mean.
-- Assumes nothing.
use mathlib.Core.Path.{refl, sym, ap, ◌∙◌}
use Prim.Native.Nat.{ℕ}
use mathlib.Core.List.{List}
use Rattle.std.specs.Prelude.{Ok}
use Rattle.std.proofs.Common.{arith}
use Rattle.std.proofs.lemmas.Result.{err_from_is_err_and}
use Rattle.words.specs.Words.{word_at, byte}
use Rattle.characters.specs.States.{Heard, Parity, Second}
use Rattle.characters.specs.Decoder.{goes_on}
use Rattle.characters.specs.DecoderWords.{waiting_of}
use Rattle.characters.proofs.WaitingLaws.{waiting_fits}
use Rattle.characters.proofs.LeftLaws.{bit_refused, bit_taken, bit_stopped, waiting_good, fresh_means, hunting_means}
use Rattle.characters.proofs.LeftLaws.{between_means, parity_means, data_means, control_means, second_means}
use Rattle.characters.proofs.decoder.bit.Goals as goal

pub returns-in_err-phase_of : goal.returns-in_err-phase_of
returns-in_err-phase_of c =
    let p = err_from_is_err_and c.from_residual.result c.from_residual.ensures.1 in
    rw (p.1, p.2) (bit_refused c.args.words.now c.args.bit (sym c.phase_of.ensures ∙ c.in_err-phase_of.was))

pub returns-in-Fresh : goal.returns-in-Fresh
returns-in-Fresh c =
    let v = c.args.words.now in
    bit_taken v c.args.bit c.truth-b.ensures (sym c.phase_of.ensures ∙ c.in_ok-phase_of.was ∙ ap Ok c.in-Fresh.is)
    (fresh_means v) refl
    (λ good shape. c.hunt.ensures _ _ _ shape)

pub returns-in-Hunting : goal.returns-in-Hunting
returns-in-Hunting c =
    let v = c.args.words.now in
    bit_taken v c.args.bit c.truth-b.ensures (sym c.phase_of.ensures ∙ c.in_ok-phase_of.was ∙ ap Ok c.in-Hunting.is)
    (hunting_means v) refl
    (λ good shape. rw (ap (λ (w : List ℕ). word_at w 6) shape) at (c.hunt-in-Hunting.ensures _ _ _ shape))

pub returns-in-Between : goal.returns-in-Between
unfolding goes_on
returns-in-Between c =
    let v = c.args.words.now in
    bit_taken v c.args.bit c.truth-b.ensures (sym c.phase_of.ensures ∙ c.in_ok-phase_of.was ∙ ap Ok c.in-Between.is)
    (between_means v) refl
    (λ good shape. c.keep_bit.ensures _ _ _ _ _ _ _ (Heard (Parity _ c.truth-b.result) 0) refl shape)

pub returns-in-Parity : goal.returns-in-Parity
returns-in-Parity c =
    let v = c.args.words.now in
    bit_taken v c.args.bit c.truth-b.ensures (sym c.phase_of.ensures ∙ c.in_ok-phase_of.was ∙ ap Ok c.in-Parity.is)
    (parity_means v) refl
    (λ good shape.
    c.flag_bit.ensures _ _ _ (waiting_fits (word_at v 2) (word_at v 3))
    (waiting_good v (byte (word_at v 1)) (waiting_of (word_at v 2) (word_at v 3)) good) shape)

pub returns-in-Data : goal.returns-in-Data
returns-in-Data c =
    let v = c.args.words.now in
    bit_taken v c.args.bit c.truth-b.ensures (sym c.phase_of.ensures ∙ c.in_ok-phase_of.was ∙ ap Ok c.in-Data.is)
    (data_means v) refl
    (λ good shape. c.data_bit.ensures _ _ _ (omega arith) shape)

pub returns-in-Control : goal.returns-in-Control
unfolding goes_on
returns-in-Control c =
    let v = c.args.words.now in
    bit_taken v c.args.bit c.truth-b.ensures (sym c.phase_of.ensures ∙ c.in_ok-phase_of.was ∙ ap Ok c.in-Control.is)
    (control_means v) refl
    (λ good shape. c.keep_bit-in-Control.ensures _ _ _ _ _ _ _ (Heard (Second _ c.truth-b.result) 0) refl shape)

pub returns-in-Second : goal.returns-in-Second
returns-in-Second c =
    let v = c.args.words.now in
    bit_taken v c.args.bit c.truth-b.ensures (sym c.phase_of.ensures ∙ c.in_ok-phase_of.was ∙ ap Ok c.in-Second.is)
    (second_means v) refl
    (λ good shape. c.second_bit.ensures _ _ _ shape)

pub returns-in-Stopped : goal.returns-in-Stopped
returns-in-Stopped c =
    bit_stopped c.args.words.now c.args.bit
    (sym c.phase_of.ensures ∙ c.in_ok-phase_of.was ∙ ap Ok c.in-Stopped.is)
