-- The words of what is told are those that are left.
-- Assumes nothing.
use Rattle.std.proofs.Common.{arith}
use Rattle.std.proofs.lemmas.Grind.{common_steps}
use Rattle.router.proofs.InPlaceLaws.{held_refused_lem, asked_told}
use Rattle.router.proofs.still_held.Goals as goal

pub returns-in_err-held_refusal-clause-in_words : goal.returns-in_err-held_refusal-clause-in_words
returns-in_err-held_refusal-clause-in_words c =
    let a = c.args in
    let refused = c.in_err-held_refusal in
    let told = held_refused_lem a.words.now refused.field-0.0 a.port (refused.ensures) in
    grind (arith, common_steps, told, asked_told a.words.now a.port)
