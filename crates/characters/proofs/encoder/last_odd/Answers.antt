-- The one word is 0, 1 or another.
-- Assumes nothing.
use Rattle.std.proofs.Common.{rules}
use Rattle.characters.proofs.EncoderLaws.{zero_read, one_read, other_read}
use Rattle.characters.proofs.encoder.last_odd.Goals as goal

pub returns-in-0 : goal.returns-in-0
returns-in-0 c = zero_read c.args.words (search rules) (search rules)

pub returns-in-1 : goal.returns-in-1
returns-in-1 c = one_read c.args.words (search rules) (search rules)

pub returns-in_default : goal.returns-in_default
returns-in_default c = other_read c.args.words (search rules) (search rules)
