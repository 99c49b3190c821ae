-- `listing`: each promise is an equation with a definition, so two answers that it allows are one.
-- Assumes nothing.
use mathlib.Core.Path.{sym, ◌∙◌}
use Rattle.promises.specs.OneAnswer.{OneResult, OnePlaces}
use Rattle.listing.proofs.render.Kinds as render_kinds
use Rattle.listing.proofs.render.Reads as render_reads

pub render : OneResult 2 render_kinds.ps render_kinds.r render_reads.Post
render κs a x y s t p q = p.answers ∙ sym q.answers

pub render_buffer : OnePlaces 2 render_kinds.ps render_kinds.r render_reads.Post (λ κs s. s.1.0.now)
render_buffer κs a x y s t p q = p.leaves ∙ sym q.leaves
