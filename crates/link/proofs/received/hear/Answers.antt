-- `link::received::hear` meets its contract.
-- Assumes nothing.
use Rattle.link.proofs.received.hear.Goals as goal

pub returns-in-NChar : goal.returns-in-NChar
returns-in-NChar c = λ small l e good.
    rw c.in-NChar.is (c.got_n_char-event.ensures small l c.args.time e good)
