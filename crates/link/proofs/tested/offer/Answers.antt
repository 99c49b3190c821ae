-- Each test is looked at where those before it do not apply.
-- Assumes nothing.
use mathlib.Core.Path.{ap}
use mathlib.Core.Bool.{not}
use Rattle.vocabulary.specs.Refusals.{NOTRUN}
use Rattle.link.proofs.TestedLaws.{last, refused, past_record, record_stops}
use Rattle.link.proofs.tested.offer.Goals as goal

pub returns-in_err-record : goal.returns-in_err-record
returns-in_err-record c = refused _ _ c.from_residual.ensures (record_stops c.args.words.now _ _ c.in_err-record.ensures)

pub returns : goal.returns
returns c =
    past_record c.args.words.now _ c.in_ok-record.ensures
    (λ own.
    (last NOTRUN tt _ (ap not (c.is_in.ensures _ own)) c.refuse.ensures))
