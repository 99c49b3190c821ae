-- The number, then a space, then the text of the report.
-- Assumes nothing.
use Rattle.listing.proofs.WritingLaws.{three_put}
use Rattle.listing.proofs.Page.put_line.Goals as goal

pub returns : goal.returns
returns c = three_put c.put_number.ensures c.put.ensures c.put_report.ensures
