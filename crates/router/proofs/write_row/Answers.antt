-- A refused call leaves the table.
-- Assumes nothing.
use Rattle.std.proofs.Common.{arith}
use Rattle.std.proofs.lemmas.Grind.{common_steps}
use Rattle.router.proofs.InPlaceLaws.{write_refused}
use Rattle.router.proofs.write_row.Goals as goal

pub returns-in_err-row_refusal : goal.returns-in_err-row_refusal
returns-in_err-row_refusal c =
    let a = c.args in
    let refused = c.in_err-row_refusal in
    grind (arith, common_steps, write_refused a.words.now refused.field-0.0 a.table.now a.row a.value (refused.ensures))
