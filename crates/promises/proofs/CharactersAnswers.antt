-- `characters`: each promise is an equation with a definition, so two answers that it allows are one.
-- Assumes nothing.
use mathlib.Core.Path.{◌≡◌, sym, ap, ◌∙◌}
use mathlib.Core.List.{List}
use Prim.Native.Nat.{ℕ}
use Rattle.std.specs.Prelude.{Option, None}
use Rattle.vocabulary.proofs.RefusalLaws.{one_result}
use Rattle.characters.specs.declared.reports.Report.{Report}
use Rattle.characters.specs.declared.encoder.Bits.{Bits}
use Rattle.characters.specs.Reports.{report_words}
use Rattle.characters.specs.EncoderWords.{bits_words, nothing_encoded}
use Rattle.promises.specs.OneAnswer.{OneResult, OnePlaces}
use Rattle.promises.proofs.EnumsProofs.{enums_numbered}
use Rattle.words.specs.Words.{Left, word_at}
use Rattle.characters.proofs.decoder.fresh.Kinds as decoder_fresh_kinds
use Rattle.characters.proofs.decoder.fresh.Reads as decoder_fresh_reads
use Rattle.characters.proofs.decoder.bit.Kinds as decoder_bit_kinds
use Rattle.characters.proofs.decoder.bit.Reads as decoder_bit_reads
use Rattle.characters.proofs.decoder.tick.Kinds as decoder_tick_kinds
use Rattle.characters.proofs.decoder.tick.Reads as decoder_tick_reads
use Rattle.characters.proofs.encoder.fresh.Kinds as encoder_fresh_kinds
use Rattle.characters.proofs.encoder.fresh.Reads as encoder_fresh_reads
use Rattle.characters.proofs.encoder.encode.Kinds as encoder_encode_kinds
use Rattle.characters.proofs.encoder.encode.Reads as encoder_encode_reads
use Rattle.characters.proofs.encoder.ArrayU322FromBits.from.Kinds as bits_words_kinds
use Rattle.characters.proofs.encoder.ArrayU322FromBits.from.Reads as bits_words_reads
use Rattle.characters.proofs.reports.ArrayU322FromReport.from.Kinds as report_words_kinds
use Rattle.characters.proofs.reports.ArrayU322FromReport.from.Reads as report_words_reads

pub decoder_fresh_words : OnePlaces 1 decoder_fresh_kinds.ps decoder_fresh_kinds.r decoder_fresh_reads.Post
    (λ κs s. s.0.now)
decoder_fresh_words κs a x y s t p q = p ∙ sym q

-- a report is known by its number and value, and so are the bits of a token by the two words that they are answered as
one_report : (r t : Option Report) → report_words r ≡ report_words t → r ≡ t
one_report r t e =
    enums_numbered.report r t (ap (λ (words : List ℕ). word_at words 0) e) (ap (λ (words : List ℕ). word_at words 1) e)

one_bits : (b c : Bits) → bits_words b ≡ bits_words c → b ≡ c
one_bits b c e = ap (λ (words : List ℕ). record { bits = word_at words 0; count = word_at words 1 }) e

pub decoder_bit : OneResult 1 decoder_bit_kinds.ps decoder_bit_kinds.r decoder_bit_reads.Post
decoder_bit κs a x y s t p q =
    one_result None x y (ap (λ (left : Left). left.refusal) (p ∙ sym q))
    (one_report _ _ (ap (λ (left : Left). left.out) (p ∙ sym q)))

pub decoder_bit_words : OnePlaces 1 decoder_bit_kinds.ps decoder_bit_kinds.r decoder_bit_reads.Post
    (λ κs s. s.0.now)
decoder_bit_words κs a x y s t p q = ap (λ (left : Left). left.state) (p ∙ sym q)

pub decoder_tick : OneResult 1 decoder_tick_kinds.ps decoder_tick_kinds.r decoder_tick_reads.Post
decoder_tick κs a x y s t p q =
    one_result None x y (ap (λ (left : Left). left.refusal) (p ∙ sym q))
    (one_report _ _ (ap (λ (left : Left). left.out) (p ∙ sym q)))

pub decoder_tick_words : OnePlaces 1 decoder_tick_kinds.ps decoder_tick_kinds.r decoder_tick_reads.Post
    (λ κs s. s.0.now)
decoder_tick_words κs a x y s t p q = ap (λ (left : Left). left.state) (p ∙ sym q)

pub encoder_fresh_words : OnePlaces 1 encoder_fresh_kinds.ps encoder_fresh_kinds.r encoder_fresh_reads.Post
    (λ κs s. s.0.now)
encoder_fresh_words κs a x y s t p q = p ∙ sym q

pub encoder_encode : OneResult 1 encoder_encode_kinds.ps encoder_encode_kinds.r encoder_encode_reads.Post
encoder_encode κs a x y s t p q =
    one_result nothing_encoded x y (ap (λ (left : Left). left.refusal) (p ∙ sym q))
    (one_bits _ _ (ap (λ (left : Left). left.out) (p ∙ sym q)))

pub encoder_encode_words : OnePlaces 1 encoder_encode_kinds.ps encoder_encode_kinds.r encoder_encode_reads.Post
    (λ κs s. s.0.now)
encoder_encode_words κs a x y s t p q = ap (λ (left : Left). left.state) (p ∙ sym q)

pub words_of_bits : OneResult 0 bits_words_kinds.ps bits_words_kinds.r bits_words_reads.Post
words_of_bits κs a x y s t p q = p ∙ sym q

pub words_of_report : OneResult 0 report_words_kinds.ps report_words_kinds.r report_words_reads.Post
words_of_report κs a x y s t p q = p ∙ sym q
