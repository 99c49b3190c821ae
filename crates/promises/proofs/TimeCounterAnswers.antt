-- `time`: each promise is an equation with a definition, so two answers that it allows are one.
-- Assumes nothing.
use mathlib.Core.Path.{◌≡◌, sym, ◌∙◌}
use contract.Lifetimes.{Lfts}
use denote.Triple.Clauses.{AtExit}
use borrow.Fn.Kinds.{Dens, res_t, ended_of}
use Rattle.promises.specs.OneAnswer.{OneResult}
use Rattle.time.proofs.Time.fresh.Kinds as fresh_kinds
use Rattle.time.proofs.Time.fresh.Reads as fresh_reads
use Rattle.time.proofs.Time.is_bad.Kinds as is_bad_kinds
use Rattle.time.proofs.Time.is_bad.Reads as is_bad_reads
use Rattle.time.proofs.Time.after.Kinds as after_kinds
use Rattle.time.proofs.Time.after.Reads as after_reads
use Rattle.time.proofs.Time.time_code.Kinds as time_code_kinds
use Rattle.time.proofs.Time.time_code.Reads as time_code_reads

pub fresh : OneResult 0 fresh_kinds.ps fresh_kinds.r fresh_reads.Post
fresh κs a x y s t p q = p ∙ sym q

pub is_bad : OneResult 0 is_bad_kinds.ps is_bad_kinds.r is_bad_reads.Post
is_bad κs a x y s t p q = p ∙ sym q

pub after : OneResult 0 after_kinds.ps after_kinds.r after_reads.Post
after κs a x y s t p q = p ∙ sym q

pub time_code : OneResult 1 time_code_kinds.ps time_code_kinds.r time_code_reads.Post
time_code κs a x y s t p q = p.0 ∙ sym q.0

-- and one record, which is lent to be changed
pub time_code_record : (κs : Lfts 1) (arguments : Dens κs time_code_kinds.ps) (x y : (res_t time_code_kinds.r κs).Denot)
    (s t : AtExit (ended_of 1 time_code_kinds.ps time_code_kinds.r) κs) →
    time_code_reads.Post κs arguments x s → time_code_reads.Post κs arguments y t → s.0.now ≡ t.0.now
time_code_record κs a x y s t p q = p.1 ∙ sym q.1
