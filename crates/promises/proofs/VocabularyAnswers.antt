-- `vocabulary`: each promise is an equation with a definition, so two answers that it allows are one.
-- Assumes nothing.
use mathlib.Core.Path.{sym, ◌∙◌}
use Rattle.promises.specs.OneAnswer.{OneResult}
use Rattle.vocabulary.proofs.U32FromRefusal.from.Kinds as number_kinds
use Rattle.vocabulary.proofs.U32FromRefusal.from.Reads as number_reads
use Rattle.vocabulary.proofs.refuse.Kinds as refuse_kinds
use Rattle.vocabulary.proofs.refuse.Reads as refuse_reads
use Rattle.vocabulary.proofs.read_as.Kinds as read_as_kinds
use Rattle.vocabulary.proofs.read_as.Reads as read_as_reads
use Rattle.vocabulary.proofs.is_end.Kinds as is_end_kinds
use Rattle.vocabulary.proofs.is_end.Reads as is_end_reads
use Rattle.vocabulary.proofs.above_eep.Kinds as above_eep_kinds
use Rattle.vocabulary.proofs.above_eep.Reads as above_eep_reads
use Rattle.vocabulary.proofs.bad_char.Kinds as bad_char_kinds
use Rattle.vocabulary.proofs.bad_char.Reads as bad_char_reads
use Rattle.vocabulary.proofs.kind.Kinds as kind_kinds
use Rattle.vocabulary.proofs.kind.Reads as kind_reads
use Rattle.vocabulary.proofs.value.Kinds as value_kinds
use Rattle.vocabulary.proofs.value.Reads as value_reads

pub number : OneResult 0 number_kinds.ps number_kinds.r number_reads.Post
number κs a x y s t p q = p ∙ sym q

pub refuse : OneResult 0 refuse_kinds.ps refuse_kinds.r refuse_reads.Post
refuse κs a x y s t p q = p ∙ sym q

pub read_as : OneResult 0 read_as_kinds.ps read_as_kinds.r read_as_reads.Post
read_as κs a x y s t p q = p ∙ sym q

pub is_end : OneResult 0 is_end_kinds.ps is_end_kinds.r is_end_reads.Post
is_end κs a x y s t p q = p ∙ sym q

pub above_eep : OneResult 0 above_eep_kinds.ps above_eep_kinds.r above_eep_reads.Post
above_eep κs a x y s t p q = p ∙ sym q

pub bad_char : OneResult 0 bad_char_kinds.ps bad_char_kinds.r bad_char_reads.Post
bad_char κs a x y s t p q = p ∙ sym q

pub kind : OneResult 0 kind_kinds.ps kind_kinds.r kind_reads.Post
kind κs a x y s t p q = p ∙ sym q

pub value : OneResult 0 value_kinds.ps value_kinds.r value_reads.Post
value κs a x y s t p q = p ∙ sym q
