-- In each phase the largest words that are allowed are those of the decoder that the words mean.
-- Assumes nothing.
use Rattle.std.proofs.Common.{rules}
use Rattle.characters.proofs.GoodLaws.{unused_good, hunting_good, between_good, parity_good, data_good}
use Rattle.characters.proofs.GoodLaws.{control_good, second_good}
use Rattle.characters.proofs.good_words.fits.Goals as goal

pub returns-in-Fresh : goal.returns-in-Fresh
returns-in-Fresh c = rw c.within.ensures (unused_good c.args.words.now (search rules) c.in-Fresh.is c.requires)

pub returns-in-Hunting : goal.returns-in-Hunting
returns-in-Hunting c =
    let v = c.args.words.now in
    rw c.within-in-Hunting.ensures (hunting_good v (search rules) (rw c.in-Hunting.is at c.requires))

pub returns-in-Between : goal.returns-in-Between
returns-in-Between c =
    let v = c.args.words.now in
    rw (c.within-in-Between.ensures, c.most_value.ensures)
    (between_good v (search rules) (rw c.in-Between.is at c.requires))

pub returns-in-Parity : goal.returns-in-Parity
returns-in-Parity c =
    let v = c.args.words.now in
    rw (c.within-in-Parity.ensures, c.most_value-in-Parity.ensures)
    (parity_good v (search rules) (rw c.in-Parity.is at c.requires))

pub returns-in-Data : goal.returns-in-Data
returns-in-Data c =
    let v = c.args.words.now in
    rw c.within-in-Data.ensures (data_good v (search rules) (rw c.in-Data.is at c.requires))

pub returns-in-Control : goal.returns-in-Control
returns-in-Control c =
    let v = c.args.words.now in
    rw c.within-in-Control.ensures (control_good v (search rules) (rw c.in-Control.is at c.requires))

pub returns-in-Second : goal.returns-in-Second
returns-in-Second c =
    let v = c.args.words.now in
    rw c.within-in-Second.ensures (second_good v (search rules) (rw c.in-Second.is at c.requires))
