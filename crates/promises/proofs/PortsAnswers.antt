-- `router_ports`: each promise is an equation with a definition, so two answers that it allows are one.
-- Assumes nothing.
use mathlib.Core.Path.{sym, ◌∙◌}
use Rattle.promises.specs.OneAnswer.{OneResult, OnePlaces}
use Rattle.router_ports.proofs.fresh.Kinds as fresh_kinds
use Rattle.router_ports.proofs.fresh.Reads as fresh_reads
use Rattle.router_ports.proofs.Mode.number.Kinds as mode_number_kinds
use Rattle.router_ports.proofs.Mode.number.Reads as mode_number_reads
use Rattle.router_ports.proofs.Mode.wanted.Kinds as mode_wanted_kinds
use Rattle.router_ports.proofs.Mode.wanted.Reads as mode_wanted_reads
use Rattle.router_ports.proofs.Mode.output.Kinds as mode_output_kinds
use Rattle.router_ports.proofs.Mode.output.Reads as mode_output_reads
use Rattle.router_ports.proofs.owner_number.Kinds as owner_number_kinds
use Rattle.router_ports.proofs.owner_number.Reads as owner_number_reads
use Rattle.router_ports.proofs.owner_input.Kinds as owner_input_kinds
use Rattle.router_ports.proofs.owner_input.Reads as owner_input_reads
use Rattle.router_ports.proofs.Wanted.wants.Kinds as wants_kinds
use Rattle.router_ports.proofs.Wanted.wants.Reads as wants_reads
use Rattle.router_ports.proofs.ArrayU323FromMode.from.Kinds as mode_words_kinds
use Rattle.router_ports.proofs.ArrayU323FromMode.from.Reads as mode_words_reads
use Rattle.router_ports.proofs.ModeFromArrayU323.from.Kinds as mode_of_kinds
use Rattle.router_ports.proofs.ModeFromArrayU323.from.Reads as mode_of_reads
use Rattle.router_ports.proofs.ArrayU323FromOutput.from.Kinds as output_words_kinds
use Rattle.router_ports.proofs.ArrayU323FromOutput.from.Reads as output_words_reads
use Rattle.router_ports.proofs.OutputFromArrayU323.from.Kinds as output_of_kinds
use Rattle.router_ports.proofs.OutputFromArrayU323.from.Reads as output_of_reads
use Rattle.router_ports.proofs.mode_at.Kinds as mode_at_kinds
use Rattle.router_ports.proofs.mode_at.Reads as mode_at_reads
use Rattle.router_ports.proofs.is_idle.Kinds as is_idle_kinds
use Rattle.router_ports.proofs.is_idle.Reads as is_idle_reads
use Rattle.router_ports.proofs.is_waiting.Kinds as is_waiting_kinds
use Rattle.router_ports.proofs.is_waiting.Reads as is_waiting_reads
use Rattle.router_ports.proofs.output_at.Kinds as output_at_kinds
use Rattle.router_ports.proofs.output_at.Reads as output_at_reads
use Rattle.router_ports.proofs.store_at.Kinds as store_at_kinds
use Rattle.router_ports.proofs.store_at.Reads as store_at_reads
use Rattle.router_ports.proofs.set_mode.Kinds as set_mode_kinds
use Rattle.router_ports.proofs.set_mode.Reads as set_mode_reads
use Rattle.router_ports.proofs.set_output.Kinds as set_output_kinds
use Rattle.router_ports.proofs.set_output.Reads as set_output_reads
use Rattle.router_ports.proofs.set_store.Kinds as set_store_kinds
use Rattle.router_ports.proofs.set_store.Reads as set_store_reads
use Rattle.router_ports.proofs.empty_at.Kinds as empty_at_kinds
use Rattle.router_ports.proofs.empty_at.Reads as empty_at_reads
use Rattle.router_ports.proofs.full_at.Kinds as full_at_kinds
use Rattle.router_ports.proofs.full_at.Reads as full_at_reads
use Rattle.router_ports.proofs.front_of.Kinds as front_of_kinds
use Rattle.router_ports.proofs.front_of.Reads as front_of_reads
use Rattle.router_ports.proofs.drop_of.Kinds as drop_of_kinds
use Rattle.router_ports.proofs.drop_of.Reads as drop_of_reads
use Rattle.router_ports.proofs.put_of.Kinds as put_of_kinds
use Rattle.router_ports.proofs.put_of.Reads as put_of_reads
use Rattle.router_ports.proofs.front_at.Kinds as front_at_kinds
use Rattle.router_ports.proofs.front_at.Reads as front_at_reads
use Rattle.router_ports.proofs.drop_front.Kinds as drop_front_kinds
use Rattle.router_ports.proofs.drop_front.Reads as drop_front_reads
use Rattle.router_ports.proofs.append.Kinds as append_kinds
use Rattle.router_ports.proofs.append.Reads as append_reads
use Rattle.router_ports.proofs.bad_area.Kinds as bad_area_kinds
use Rattle.router_ports.proofs.bad_area.Reads as bad_area_reads
use Rattle.router_ports.proofs.bad_state.Kinds as bad_state_kinds
use Rattle.router_ports.proofs.bad_state.Reads as bad_state_reads
use Rattle.router_ports.proofs.bad_stores.Kinds as bad_stores_kinds
use Rattle.router_ports.proofs.bad_stores.Reads as bad_stores_reads

pub fresh_words : OnePlaces 1 fresh_kinds.ps fresh_kinds.r fresh_reads.Post
    (λ κs s. s.0.now)
fresh_words κs a x y s t p q = p ∙ sym q

pub mode_number : OneResult 0 mode_number_kinds.ps mode_number_kinds.r mode_number_reads.Post
mode_number κs a x y s t p q = p ∙ sym q

pub mode_wanted : OneResult 0 mode_wanted_kinds.ps mode_wanted_kinds.r mode_wanted_reads.Post
mode_wanted κs a x y s t p q = p ∙ sym q

pub mode_output : OneResult 0 mode_output_kinds.ps mode_output_kinds.r mode_output_reads.Post
mode_output κs a x y s t p q = p ∙ sym q

pub owner_number : OneResult 0 owner_number_kinds.ps owner_number_kinds.r owner_number_reads.Post
owner_number κs a x y s t p q = p ∙ sym q

pub owner_input : OneResult 0 owner_input_kinds.ps owner_input_kinds.r owner_input_reads.Post
owner_input κs a x y s t p q = p ∙ sym q

pub wants : OneResult 0 wants_kinds.ps wants_kinds.r wants_reads.Post
wants κs a x y s t p q = p ∙ sym q

pub mode_words : OneResult 0 mode_words_kinds.ps mode_words_kinds.r mode_words_reads.Post
mode_words κs a x y s t p q = p ∙ sym q

pub mode_of : OneResult 0 mode_of_kinds.ps mode_of_kinds.r mode_of_reads.Post
mode_of κs a x y s t p q = p ∙ sym q

pub output_words : OneResult 0 output_words_kinds.ps output_words_kinds.r output_words_reads.Post
output_words κs a x y s t p q = p ∙ sym q

pub output_of : OneResult 0 output_of_kinds.ps output_of_kinds.r output_of_reads.Post
output_of κs a x y s t p q = p ∙ sym q

pub mode_at : OneResult 1 mode_at_kinds.ps mode_at_kinds.r mode_at_reads.Post
mode_at κs a x y s t p q = p ∙ sym q

pub is_idle : OneResult 1 is_idle_kinds.ps is_idle_kinds.r is_idle_reads.Post
is_idle κs a x y s t p q = p ∙ sym q

pub is_waiting : OneResult 1 is_waiting_kinds.ps is_waiting_kinds.r is_waiting_reads.Post
is_waiting κs a x y s t p q = p ∙ sym q

pub output_at : OneResult 1 output_at_kinds.ps output_at_kinds.r output_at_reads.Post
output_at κs a x y s t p q = p ∙ sym q

pub store_at : OneResult 1 store_at_kinds.ps store_at_kinds.r store_at_reads.Post
store_at κs a x y s t p q = p ∙ sym q

pub set_mode_words : OnePlaces 1 set_mode_kinds.ps set_mode_kinds.r set_mode_reads.Post
    (λ κs s. s.0.now)
set_mode_words κs a x y s t p q = p ∙ sym q

pub set_output_words : OnePlaces 1 set_output_kinds.ps set_output_kinds.r set_output_reads.Post
    (λ κs s. s.0.now)
set_output_words κs a x y s t p q = p ∙ sym q

pub set_store_words : OnePlaces 1 set_store_kinds.ps set_store_kinds.r set_store_reads.Post
    (λ κs s. s.0.now)
set_store_words κs a x y s t p q = p ∙ sym q

pub empty_at : OneResult 1 empty_at_kinds.ps empty_at_kinds.r empty_at_reads.Post
empty_at κs a x y s t p q = p ∙ sym q

pub full_at : OneResult 2 full_at_kinds.ps full_at_kinds.r full_at_reads.Post
full_at κs a x y s t p q = p ∙ sym q

pub front_of : OneResult 1 front_of_kinds.ps front_of_kinds.r front_of_reads.Post
front_of κs a x y s t p q = p ∙ sym q

pub drop_of : OneResult 1 drop_of_kinds.ps drop_of_kinds.r drop_of_reads.Post
drop_of κs a x y s t p q = p ∙ sym q

pub put_of : OneResult 1 put_of_kinds.ps put_of_kinds.r put_of_reads.Post
put_of κs a x y s t p q = p.0 ∙ sym q.0

pub put_of_area : OnePlaces 1 put_of_kinds.ps put_of_kinds.r put_of_reads.Post
    (λ κs s. s.1.0.now)
put_of_area κs a x y s t p q = p.1 ∙ sym q.1

pub front_at : OneResult 2 front_at_kinds.ps front_at_kinds.r front_at_reads.Post
front_at κs a x y s t p q = p ∙ sym q

pub drop_front_words : OnePlaces 2 drop_front_kinds.ps drop_front_kinds.r drop_front_reads.Post
    (λ κs s. s.0.now)
drop_front_words κs a x y s t p q = p ∙ sym q

pub append_words : OnePlaces 2 append_kinds.ps append_kinds.r append_reads.Post
    (λ κs s. s.0.now)
append_words κs a x y s t p q = p.0 ∙ sym q.0

pub append_area : OnePlaces 2 append_kinds.ps append_kinds.r append_reads.Post
    (λ κs s. s.1.0.now)
append_area κs a x y s t p q = p.1 ∙ sym q.1

pub bad_area : OneResult 1 bad_area_kinds.ps bad_area_kinds.r bad_area_reads.Post
bad_area κs a x y s t p q = p ∙ sym q

pub bad_state : OneResult 1 bad_state_kinds.ps bad_state_kinds.r bad_state_reads.Post
bad_state κs a x y s t p q = p ∙ sym q

pub bad_stores : OneResult 1 bad_stores_kinds.ps bad_stores_kinds.r bad_stores_reads.Post
bad_stores κs a x y s t p q = p ∙ sym q
