-- `router_table`: each promise is an equation with a definition, so two answers that it allows are one.
-- Assumes nothing.
use mathlib.Core.Path.{sym, ◌∙◌}
use Rattle.promises.specs.OneAnswer.{OneResult, OnePlaces}
use Rattle.router_table.proofs.fresh.Kinds as fresh_kinds
use Rattle.router_table.proofs.fresh.Reads as fresh_reads
use Rattle.router_table.proofs.Heading.number.Kinds as heading_number_kinds
use Rattle.router_table.proofs.Heading.number.Reads as heading_number_reads
use Rattle.router_table.proofs.Heading.values.Kinds as heading_values_kinds
use Rattle.router_table.proofs.Heading.values.Reads as heading_values_reads
use Rattle.router_table.proofs.outside_rows.Kinds as outside_rows_kinds
use Rattle.router_table.proofs.outside_rows.Reads as outside_rows_reads
use Rattle.router_table.proofs.write.Kinds as write_kinds
use Rattle.router_table.proofs.write.Reads as write_reads
use Rattle.router_table.proofs.read.Kinds as read_kinds
use Rattle.router_table.proofs.read.Reads as read_reads
use Rattle.router_table.proofs.heading_of.Kinds as heading_of_kinds
use Rattle.router_table.proofs.heading_of.Reads as heading_of_reads

pub fresh_table : OnePlaces 1 fresh_kinds.ps fresh_kinds.r fresh_reads.Post (λ κs s. s.0.now)
fresh_table κs a x y s t p q = p ∙ sym q

pub outside_rows : OneResult 0 outside_rows_kinds.ps outside_rows_kinds.r outside_rows_reads.Post
outside_rows κs a x y s t p q = p ∙ sym q

pub write_table : OnePlaces 1 write_kinds.ps write_kinds.r write_reads.Post (λ κs s. s.0.now)
write_table κs a x y s t p q = p ∙ sym q

pub read : OneResult 1 read_kinds.ps read_kinds.r read_reads.Post
read κs a x y s t p q = p ∙ sym q

pub heading_of : OneResult 1 heading_of_kinds.ps heading_of_kinds.r heading_of_reads.Post
heading_of κs a x y s t p q = p ∙ sym q

pub heading_number : OneResult 0 heading_number_kinds.ps heading_number_kinds.r heading_number_reads.Post
heading_number κs a x y s t p q = p ∙ sym q

pub heading_values : OneResult 0 heading_values_kinds.ps heading_values_kinds.r heading_values_reads.Post
heading_values κs a x y s t p q = p ∙ sym q
