-- Each token by its own law.
-- Assumes nothing.
use Rattle.std.proofs.Common.{rules}
use Rattle.characters.proofs.EncoderLaws.{null_sent, fct_sent, time_code_sent}
use Rattle.characters.proofs.encoder.sent.Goals as goal

pub returns-in-Null : goal.returns-in-Null
returns-in-Null c = rw (c.in-Null.is, c.truth_word-p.ensures) (null_sent c.args.odd)

pub returns-in-Fct : goal.returns-in-Fct
returns-in-Fct c = rw (c.in-Fct.is, c.truth_word-p.ensures) (fct_sent c.args.odd)

pub returns-in-TimeCode : goal.returns-in-TimeCode
returns-in-TimeCode c =
    rw (c.in-TimeCode.is, c.truth_word-p.ensures, c.from.ensures, c.odd_ones.ensures)
    (time_code_sent c.args.odd c.in-TimeCode.v (search rules))
