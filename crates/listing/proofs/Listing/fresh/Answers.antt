-- The words of a fresh decoder are those of a decoder, a fresh one.
-- Assumes nothing.
use Rattle.characters.specs.DecoderWords.{decoder_from, decoder_of}
use Rattle.characters.specs.States.{Fresh}
use Rattle.characters.proofs.DecoderLaws.{keeps_decoders}
use Rattle.listing.proofs.Listing.fresh.Goals as goal

pub invariant_of-result : goal.invariant_of-result
invariant_of-result c = record { decodes = rw c.fresh.ensures (keeps_decoders.is_decoder_lem Fresh tt) }

pub returns : goal.returns
unfolding decoder_of decoder_from
returns c = rw c.fresh.ensures
