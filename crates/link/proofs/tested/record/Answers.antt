-- Words that are an end's are those of the end that they mean, so its record is tested.
-- Assumes nothing.
use Rattle.link.proofs.TestedLaws.{last_record}
use Rattle.link.proofs.tested.record.Goals as goal

pub returns : goal.returns
returns c = last_record c.args.words.now _ c.no_link.ensures c.in_ok-refuse.ensures c.bad_record.ensures c.refuse-2.ensures
