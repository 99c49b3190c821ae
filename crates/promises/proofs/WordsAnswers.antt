-- `words`: each promise is an equation with a definition, so two answers that it allows are one.
-- Assumes nothing.
use mathlib.Core.Path.{sym, ◌∙◌}
use Rattle.std.proofs.Common.{ℕ, Fits, w64}
use Rattle.promises.specs.OneAnswer.{OneResult, OnePlaces}
use Rattle.words.proofs.truth.Kinds as truth_kinds
use Rattle.words.proofs.truth.Reads as truth_reads
use Rattle.words.proofs.truth_word.Kinds as truth_word_kinds
use Rattle.words.proofs.truth_word.Reads as truth_word_reads
use Rattle.words.proofs.byte.Kinds as byte_kinds
use Rattle.words.proofs.byte.Reads as byte_reads
use Rattle.words.proofs.narrow.Kinds as narrow_kinds
use Rattle.words.proofs.narrow.Reads as narrow_reads
use Rattle.words.proofs.answer.Kinds as answer_kinds
use Rattle.words.proofs.answer.Reads as answer_reads
use Rattle.words.proofs.fitted.Kinds as fitted_kinds
use Rattle.words.proofs.fitted.Reads as fitted_reads
use Rattle.words.proofs.named_token.Kinds as named_token_kinds
use Rattle.words.proofs.named_token.Reads as named_token_reads
use Rattle.words.proofs.token_of.Kinds as token_of_kinds
use Rattle.words.proofs.token_of.Reads as token_of_reads

pub truth : OneResult 0 truth_kinds.ps truth_kinds.r truth_reads.Post
truth κs a x y s t p q = p ∙ sym q

pub truth_word : OneResult 0 truth_word_kinds.ps truth_word_kinds.r truth_word_reads.Post
truth_word κs a x y s t p q = p ∙ sym q

pub byte : OneResult 0 byte_kinds.ps byte_kinds.r byte_reads.Post
byte κs a x y s t p q = p ∙ sym q

pub narrow : OneResult 0 narrow_kinds.ps narrow_kinds.r narrow_reads.Post
narrow κs a x y s t p q = p ∙ sym q

pub answer : (n : ℕ) (f : Fits w64 n) → OneResult 2 (answer_kinds.ps n f) (answer_kinds.r n f) (answer_reads.Post n f)
answer n f κs a x y s t p q = p.0 ∙ sym q.0

-- and one content of what C gets beside the number
pub answer_out : (n : ℕ) (f : Fits w64 n) → OnePlaces 2 (answer_kinds.ps n f) (answer_kinds.r n f) (answer_reads.Post n f)
    (λ κs s. s.1.0.now)
answer_out n f κs a x y s t p q = p.1 ∙ sym q.1

pub fitted : OneResult 0 fitted_kinds.ps fitted_kinds.r fitted_reads.Post
fitted κs a x y s t p q = p ∙ sym q

pub token_of : OneResult 0 token_of_kinds.ps token_of_kinds.r token_of_reads.Post
token_of κs a x y s t p q = p ∙ sym q

pub named_token : OneResult 0 named_token_kinds.ps named_token_kinds.r named_token_reads.Post
named_token κs a x y s t p q = p ∙ sym q
