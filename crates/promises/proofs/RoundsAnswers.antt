-- `rounds`: each promise is an equation with a definition, so two answers that it allows are one.
-- Assumes nothing.
use mathlib.Core.Path.{sym, ap, ◌∙◌}
use Rattle.promises.specs.OneAnswer.{OneResult, OnePlaces}
use Rattle.router_rounds.specs.Acts.{Tally}
use Rattle.router_rounds.specs.InWords.{Words}
use Rattle.router_rounds.specs.declared.Totals.{Totals}
use Rattle.router_rounds.proofs.run_in_place.Kinds as run_kinds
use Rattle.router_rounds.proofs.run_in_place.Reads as run_reads

pub run : OneResult 3 run_kinds.ps run_kinds.r run_reads.Post
run κs a x y s t p q =
    ap {B = Totals}
    (λ (m : Tally Words).
    record {
      rounds = m.rounds;
      moved = m.moved;
      errors = m.errors;
      changed = m.changed;
    })
    (p.0 ∙ sym q.0)

pub run_state : OnePlaces 3 run_kinds.ps run_kinds.r run_reads.Post (λ κs s. s.0.now)
run_state κs a x y s t p q = ap (λ (m : Tally Words). m.now.state) (p.0 ∙ sym q.0)

pub run_area : OnePlaces 3 run_kinds.ps run_kinds.r run_reads.Post (λ κs s. s.1.0.now)
run_area κs a x y s t p q = ap (λ (m : Tally Words). m.now.area) (p.0 ∙ sym q.0)
