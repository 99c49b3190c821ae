-- A byte that is no bit gives none.
-- Assumes nothing.
use borrow.Author.Rules.{rules}
use Rattle.listing.proofs.InputLaws.{no_bit}
use Rattle.listing.proofs.LineLaws.{no_bits_taken}
use Rattle.listing.proofs.Listing.take_byte.Goals as goal

pub returns-in_default : goal.returns-in_default
returns-in_default c = no_bits_taken c.args.self.now c.args.page.now (no_bit c.args.byte (search rules) (search rules))
