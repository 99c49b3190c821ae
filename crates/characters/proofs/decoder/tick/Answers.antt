-- The words are refused or have a phase, and a silence counts in each but the first and the last.
-- Assumes nothing.
use mathlib.Core.Path.{sym, ap, ◌∙◌}
use Rattle.std.specs.Prelude.{Ok}
use Rattle.std.proofs.lemmas.Result.{err_from_is_err_and}
use Rattle.characters.proofs.LeftLaws.{tick_refused, tick_fresh, tick_counted, tick_stopped}
use Rattle.characters.proofs.decoder.tick.Goals as goal

pub returns-in_err-phase_of : goal.returns-in_err-phase_of
returns-in_err-phase_of c =
    let p = err_from_is_err_and c.from_residual.result c.from_residual.ensures.1 in
    rw (p.1, p.2) (tick_refused c.args.words.now (sym c.phase_of.ensures ∙ c.in_err-phase_of.was))

pub returns-in-Fresh : goal.returns-in-Fresh
returns-in-Fresh c =
    tick_fresh c.args.words.now (sym c.phase_of.ensures ∙ c.in_ok-phase_of.was ∙ ap Ok c.in-Fresh.is)

pub returns-in-Stopped : goal.returns-in-Stopped
returns-in-Stopped c =
    tick_stopped c.args.words.now (sym c.phase_of.ensures ∙ c.in_ok-phase_of.was ∙ ap Ok c.in-Stopped.is)

pub returns-in_default : goal.returns-in_default
returns-in_default c =
    tick_counted c.args.words.now c.in_ok-phase_of.field-0 (sym c.phase_of.ensures ∙ c.in_ok-phase_of.was)
    c.in_default.not-Fresh c.in_default.not-Stopped c.silent_tick.ensures
