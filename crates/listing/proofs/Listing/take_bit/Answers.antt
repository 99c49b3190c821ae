-- One bit: the decoder goes on, and a report gets its line.
-- Assumes nothing.
use mathlib.Core.Path.{refl, sym, ◌∙◌}
use Rattle.listing.proofs.WritingLaws.{nothing_put}
use Rattle.listing.proofs.LineLaws.{still_decodes, report_text, no_text, bit_taken}
use Rattle.listing.proofs.Listing.take_bit.Goals as goal

pub invariant_of-self : goal.invariant_of-self
invariant_of-self c = record { decodes = still_decodes c.args.self.now c.args.b c.bit.result c.bit.ensures c.from.ensures }

pub put_line-requires : goal.put_line-requires
put_line-requires c =
    let reported = sym c.in-Some.is ∙ c.unwrap_or-reported.ensures in
    rw (report_text c.args.self.now c.args.b c.bit.result c.bit.ensures c.from.ensures reported) at c.requires.room

pub returns-in-Some : goal.returns-in-Some
returns-in-Some c =
    let reported = sym c.in-Some.is ∙ c.unwrap_or-reported.ensures in
    bit_taken c.args.self.now c.args.b c.bit.result c.bit.ensures c.from.ensures refl refl
    (rw (report_text c.args.self.now c.args.b c.bit.result c.bit.ensures c.from.ensures reported) c.put_line.ensures)

pub returns-in_default : goal.returns-in_default
returns-in_default c =
    let reported = sym c.in_default.is ∙ c.unwrap_or-reported.ensures in
    bit_taken c.args.self.now c.args.b c.bit.result c.bit.ensures c.from.ensures refl refl
    (rw (no_text c.args.self.now c.args.b c.bit.result c.bit.ensures c.from.ensures reported) (nothing_put c.args.page.now))
