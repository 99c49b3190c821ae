-- A number below 256 is data, 256 is EOP, and the others are EEP.
-- Assumes nothing.
use Rattle.std.proofs.Common.{◌≤◌, arith}
use Rattle.characters.proofs.EncoderLaws.{eop_sent, eep_sent, data_sent}
use Rattle.characters.proofs.encoder.n_char.Goals as goal

pub returns-in-Ok : goal.returns-in-Ok
returns-in-Ok c =
    rw (c.truth_word-p.ensures, c.from.ensures, c.odd_ones.ensures, c.in-Ok.ensures.1)
    (data_sent c.args.odd c.args.n c.in-Ok.ensures.0)

pub returns-then-n-eq-EOP : goal.returns-then-n-eq-EOP
returns-then-n-eq-EOP c = rw (c.truth_word-p.ensures, c.if-n-eq-EOP.true) (eop_sent c.args.odd)

pub returns-else-n-eq-EOP : goal.returns-else-n-eq-EOP
returns-else-n-eq-EOP c =
    let large : 256 ≤ c.args.n = omega (arith, c.in-Err.ensures) in
    rw c.truth_word-p.ensures (eep_sent c.args.odd c.args.n large c.if-n-eq-EOP.false)
