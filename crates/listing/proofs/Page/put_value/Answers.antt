-- The word, then the number, then the end of the line.
-- Assumes nothing.
use Rattle.listing.proofs.WritingLaws.{three_put}
use Rattle.listing.proofs.Page.put_value.Goals as goal

pub returns : goal.returns
returns c = three_put c.put.ensures c.put_number.ensures c.put-2.ensures
