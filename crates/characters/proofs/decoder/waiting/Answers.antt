-- What waits is a token where its number and value name one, else it is known by its number.
-- Assumes nothing.
use mathlib.Core.Path.{sym, subst, ◌∙◌}
use borrow.Author.Tests.{ne_eqb}
use Rattle.characters.proofs.WaitingLaws.{Read, reads}
use Rattle.characters.proofs.decoder.waiting.Goals as goal

pub returns-in-Ok : goal.returns-in-Ok
returns-in-Ok c = λ w fits good n v.
    subst (Read w) (sym (rw (n, v) at c.named_token.ensures) ∙ c.in-Ok.is) (reads w fits good)

pub returns-else-number-eq-ESC : goal.returns-else-number-eq-ESC
returns-else-number-eq-ESC c = λ w fits good n v.
    let other = rw n at c.if-number-eq-ESC.false in
    rw (ne_eqb _ _ other) at
    (subst (Read w) (sym (rw (n, v) at c.named_token.ensures) ∙ c.in-Err.is) (reads w fits good))
