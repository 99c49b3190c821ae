-- `router`: each promise is an equation with a definition, so two answers that it allows are one.
-- Assumes nothing.
use mathlib.Core.Path.{◌≡◌, refl, sym, ap, ◌∙◌}
use Rattle.std.specs.Prelude.{Result, Ok, Err}
use Rattle.vocabulary.specs.declared.Refusal.{Refusal}
use Rattle.vocabulary.specs.Refusals.{refusal_in, answer_in}
use Rattle.vocabulary.proofs.RefusalLaws.{one_result}
use Rattle.words.specs.Words.{word_at}
use Rattle.promises.specs.OneAnswer.{OneResult, OnePlaces}
use Rattle.router.specs.declared.Ran.{Ran}
use Rattle.router.specs.declared.held.Held.{Held}
use Rattle.router.specs.Records.{StillHeld, ran_words, none_ran}
use Rattle.router.specs.Held.{held_refused}
use Rattle.router.specs.HeldCalls.{answered}
use Rattle.router.specs.RouterCalls.{RouterLeft}
use Rattle.router.proofs.fresh.Kinds as fresh_kinds
use Rattle.router.proofs.fresh.Reads as fresh_reads
use Rattle.router.proofs.put.Kinds as put_kinds
use Rattle.router.proofs.put.Reads as put_reads
use Rattle.router.proofs.take.Kinds as take_kinds
use Rattle.router.proofs.take.Reads as take_reads
use Rattle.router.proofs.run.Kinds as run_kinds
use Rattle.router.proofs.run.Reads as run_reads
use Rattle.router.proofs.write_row.Kinds as write_row_kinds
use Rattle.router.proofs.write_row.Reads as write_row_reads
use Rattle.router.proofs.read_row.Kinds as read_row_kinds
use Rattle.router.proofs.read_row.Reads as read_row_reads
use Rattle.router.proofs.still_held.Kinds as still_held_kinds
use Rattle.router.proofs.still_held.Reads as still_held_reads
use Rattle.router.proofs.held.ArrayU32WORDSFromHeld.from.Kinds as held_words_kinds
use Rattle.router.proofs.held.ArrayU32WORDSFromHeld.from.Reads as held_words_reads
use Rattle.router.proofs.ArrayU323FromRan.from.Kinds as ran_words_kinds
use Rattle.router.proofs.ArrayU323FromRan.from.Reads as ran_words_reads

-- the three numbers that a run tells are what it answers
one_ran : (a b : Ran) → ran_words a ≡ ran_words b → a ≡ b
one_ran a b e = λ i.
    record {
      rounds = word_at (e i) 0;
      moved = word_at (e i) 1;
      errors = word_at (e i) 2;
    }

-- what is held, without its refusal, is what is answered
held_in : StillHeld → Held
held_in a =
    record {
      mode = a.mode;
      unmoved = a.unmoved;
      owner = a.owner;
      untaken = a.untaken;
      wanted = a.wanted;
      unread = a.unread;
      nothing = a.nothing;
    }

held_answer : (x : Result Held Refusal) → held_in (answered x) ≡ answer_in (held_in (held_refused 0)) x
unfolding held_refused held_in
held_answer (Ok held) = refl
held_answer (Err r) = refl

pub held_refusal : (x : Result Held Refusal) → (answered x).refusal ≡ refusal_in x
unfolding held_refused
held_refusal (Ok held) = refl
held_refusal (Err r) = refl

one_held : (x y : Result Held Refusal) → answered x ≡ answered y → x ≡ y
one_held x y e =
    one_result (held_in (held_refused 0)) x y
    (sym (held_refusal x) ∙ ap (λ (a : StillHeld). a.refusal) e ∙ held_refusal y)
    (sym (held_answer x) ∙ ap held_in e ∙ held_answer y)

pub fresh_words : OnePlaces 1 fresh_kinds.ps fresh_kinds.r fresh_reads.Post
    (λ κs s. s.0.now)
fresh_words κs a x y s t p q = p ∙ sym q

pub put : OneResult 2 put_kinds.ps put_kinds.r put_reads.Post
put κs a x y s t p q = one_result tt x y (ap (λ (left : RouterLeft). left.refusal) (p ∙ sym q)) refl

pub put_words : OnePlaces 2 put_kinds.ps put_kinds.r put_reads.Post
    (λ κs s. s.0.now)
put_words κs a x y s t p q = ap (λ (left : RouterLeft). left.state) (p ∙ sym q)

pub put_area : OnePlaces 2 put_kinds.ps put_kinds.r put_reads.Post
    (λ κs s. s.1.0.now)
put_area κs a x y s t p q = ap (λ (left : RouterLeft). left.area) (p ∙ sym q)

pub take : OneResult 2 take_kinds.ps take_kinds.r take_reads.Post
take κs a x y s t p q =
    one_result 0 x y (ap (λ (left : RouterLeft). left.refusal) (p ∙ sym q))
    (ap (λ (left : RouterLeft). word_at left.out 0) (p ∙ sym q))

pub take_words : OnePlaces 2 take_kinds.ps take_kinds.r take_reads.Post
    (λ κs s. s.0.now)
take_words κs a x y s t p q = ap (λ (left : RouterLeft). left.state) (p ∙ sym q)

pub run : OneResult 3 run_kinds.ps run_kinds.r run_reads.Post
run κs a x y s t p q =
    one_result none_ran x y (ap (λ (left : RouterLeft). left.refusal) (p ∙ sym q))
    (one_ran (answer_in none_ran x) (answer_in none_ran y) (ap (λ (left : RouterLeft). left.out) (p ∙ sym q)))

pub run_words : OnePlaces 3 run_kinds.ps run_kinds.r run_reads.Post
    (λ κs s. s.0.now)
run_words κs a x y s t p q = ap (λ (left : RouterLeft). left.state) (p ∙ sym q)

pub run_area : OnePlaces 3 run_kinds.ps run_kinds.r run_reads.Post
    (λ κs s. s.1.0.now)
run_area κs a x y s t p q = ap (λ (left : RouterLeft). left.area) (p ∙ sym q)

pub write_row : OneResult 2 write_row_kinds.ps write_row_kinds.r write_row_reads.Post
write_row κs a x y s t p q = one_result tt x y (p.0 ∙ sym q.0) refl

pub write_row_table : OnePlaces 2 write_row_kinds.ps write_row_kinds.r write_row_reads.Post
    (λ κs s. s.1.0.now)
write_row_table κs a x y s t p q = p.1 ∙ sym q.1

pub read_row : OneResult 2 read_row_kinds.ps read_row_kinds.r read_row_reads.Post
read_row κs a x y s t p q = one_result 0 x y (p.0 ∙ sym q.0) (p.1 ∙ sym q.1)

pub still_held : OneResult 1 still_held_kinds.ps still_held_kinds.r still_held_reads.Post
still_held κs a x y s t p q = one_held x y (p.0 ∙ sym q.0)

pub ran_in_words : OneResult 0 ran_words_kinds.ps ran_words_kinds.r ran_words_reads.Post
ran_in_words κs a x y s t p q = p ∙ sym q

pub held_words : OneResult 0 held_words_kinds.ps held_words_kinds.r held_words_reads.Post
held_words κs a x y s t p q = p ∙ sym q
