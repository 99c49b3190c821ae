-- `neftolek`, the calls in the shape that C sees: each promise is an equation with a definition, so two answers that it allows
-- are one.
-- Assumes nothing.
use mathlib.Core.Path.{sym, ap, ◌∙◌}
use Rattle.promises.specs.OneAnswer.{OneResult, OnePlaces}
use Rattle.words.specs.Words.{Left}
use Rattle.link.specs.LinkCalls.{LinkLeft, ReceiveLeft}
use Rattle.router.specs.HeldCalls.{HeldLeft}
use Rattle.router.specs.RouterCalls.{RouterLeft}
use Rattle.neftolek.proofs.character_calls.neftolek_decoder_fresh.Kinds as decoder_fresh_kinds
use Rattle.neftolek.proofs.character_calls.neftolek_decoder_fresh.Reads as decoder_fresh_reads
use Rattle.neftolek.proofs.character_calls.neftolek_decoder_bit.Kinds as decoder_bit_kinds
use Rattle.neftolek.proofs.character_calls.neftolek_decoder_bit.Reads as decoder_bit_reads
use Rattle.neftolek.proofs.character_calls.neftolek_decoder_tick.Kinds as decoder_tick_kinds
use Rattle.neftolek.proofs.character_calls.neftolek_decoder_tick.Reads as decoder_tick_reads
use Rattle.neftolek.proofs.character_calls.neftolek_encoder_fresh.Kinds as encoder_fresh_kinds
use Rattle.neftolek.proofs.character_calls.neftolek_encoder_fresh.Reads as encoder_fresh_reads
use Rattle.neftolek.proofs.character_calls.neftolek_encode.Kinds as encode_kinds
use Rattle.neftolek.proofs.character_calls.neftolek_encode.Reads as encode_reads
use Rattle.neftolek.proofs.link_calls.neftolek_link_fresh.Kinds as link_fresh_kinds
use Rattle.neftolek.proofs.link_calls.neftolek_link_fresh.Reads as link_fresh_reads
use Rattle.neftolek.proofs.link_calls.neftolek_time_fresh.Kinds as time_fresh_kinds
use Rattle.neftolek.proofs.link_calls.neftolek_time_fresh.Reads as time_fresh_reads
use Rattle.neftolek.proofs.link_calls.neftolek_link_tick.Kinds as link_tick_kinds
use Rattle.neftolek.proofs.link_calls.neftolek_link_tick.Reads as link_tick_reads
use Rattle.neftolek.proofs.link_calls.neftolek_link_reset.Kinds as link_reset_kinds
use Rattle.neftolek.proofs.link_calls.neftolek_link_reset.Reads as link_reset_reads
use Rattle.neftolek.proofs.link_calls.neftolek_link_fault.Kinds as link_fault_kinds
use Rattle.neftolek.proofs.link_calls.neftolek_link_fault.Reads as link_fault_reads
use Rattle.neftolek.proofs.link_calls.neftolek_link_control.Kinds as link_control_kinds
use Rattle.neftolek.proofs.link_calls.neftolek_link_control.Reads as link_control_reads
use Rattle.neftolek.proofs.link_calls.neftolek_link_send.Kinds as link_send_kinds
use Rattle.neftolek.proofs.link_calls.neftolek_link_send.Reads as link_send_reads
use Rattle.neftolek.proofs.link_calls.neftolek_link_receive.Kinds as link_receive_kinds
use Rattle.neftolek.proofs.link_calls.neftolek_link_receive.Reads as link_receive_reads
use Rattle.neftolek.proofs.link_calls.neftolek_link_put.Kinds as link_put_kinds
use Rattle.neftolek.proofs.link_calls.neftolek_link_put.Reads as link_put_reads
use Rattle.neftolek.proofs.link_calls.neftolek_link_take.Kinds as link_take_kinds
use Rattle.neftolek.proofs.link_calls.neftolek_link_take.Reads as link_take_reads
use Rattle.neftolek.proofs.link_calls.neftolek_link_offer.Kinds as link_offer_kinds
use Rattle.neftolek.proofs.link_calls.neftolek_link_offer.Reads as link_offer_reads
use Rattle.neftolek.proofs.router_calls.neftolek_router_fresh.Kinds as router_fresh_kinds
use Rattle.neftolek.proofs.router_calls.neftolek_router_fresh.Reads as router_fresh_reads
use Rattle.neftolek.proofs.router_calls.neftolek_table_fresh.Kinds as table_fresh_kinds
use Rattle.neftolek.proofs.router_calls.neftolek_table_fresh.Reads as table_fresh_reads
use Rattle.neftolek.proofs.router_calls.neftolek_router_put.Kinds as router_put_kinds
use Rattle.neftolek.proofs.router_calls.neftolek_router_put.Reads as router_put_reads
use Rattle.neftolek.proofs.router_calls.neftolek_router_take.Kinds as router_take_kinds
use Rattle.neftolek.proofs.router_calls.neftolek_router_take.Reads as router_take_reads
use Rattle.neftolek.proofs.router_calls.neftolek_router_run.Kinds as router_run_kinds
use Rattle.neftolek.proofs.router_calls.neftolek_router_run.Reads as router_run_reads
use Rattle.neftolek.proofs.router_calls.neftolek_router_write_row.Kinds as router_write_row_kinds
use Rattle.neftolek.proofs.router_calls.neftolek_router_write_row.Reads as router_write_row_reads
use Rattle.neftolek.proofs.router_calls.neftolek_router_read_row.Kinds as router_read_row_kinds
use Rattle.neftolek.proofs.router_calls.neftolek_router_read_row.Reads as router_read_row_reads
use Rattle.neftolek.proofs.held_calls.neftolek_router_still_held.Kinds as router_still_held_kinds
use Rattle.neftolek.proofs.held_calls.neftolek_router_still_held.Reads as router_still_held_reads

pub decoder_fresh_state : OnePlaces 1 decoder_fresh_kinds.ps decoder_fresh_kinds.r decoder_fresh_reads.Post
    (λ κs s. s.0.now)
decoder_fresh_state κs a x y s t p q = p ∙ sym q

pub decoder_bit : OneResult 2 decoder_bit_kinds.ps decoder_bit_kinds.r decoder_bit_reads.Post
decoder_bit κs a x y s t p q = ap (λ (left : Left). left.refusal) (p ∙ sym q)

pub decoder_bit_state : OnePlaces 2 decoder_bit_kinds.ps decoder_bit_kinds.r decoder_bit_reads.Post
    (λ κs s. s.0.now)
decoder_bit_state κs a x y s t p q = ap (λ (left : Left). left.state) (p ∙ sym q)

pub decoder_bit_out : OnePlaces 2 decoder_bit_kinds.ps decoder_bit_kinds.r decoder_bit_reads.Post
    (λ κs s. s.1.1.0.now)
decoder_bit_out κs a x y s t p q = ap (λ (left : Left). left.out) (p ∙ sym q)

pub decoder_tick : OneResult 2 decoder_tick_kinds.ps decoder_tick_kinds.r decoder_tick_reads.Post
decoder_tick κs a x y s t p q = ap (λ (left : Left). left.refusal) (p ∙ sym q)

pub decoder_tick_state : OnePlaces 2 decoder_tick_kinds.ps decoder_tick_kinds.r decoder_tick_reads.Post
    (λ κs s. s.0.now)
decoder_tick_state κs a x y s t p q = ap (λ (left : Left). left.state) (p ∙ sym q)

pub decoder_tick_out : OnePlaces 2 decoder_tick_kinds.ps decoder_tick_kinds.r decoder_tick_reads.Post
    (λ κs s. s.1.0.now)
decoder_tick_out κs a x y s t p q = ap (λ (left : Left). left.out) (p ∙ sym q)

pub encoder_fresh_state : OnePlaces 1 encoder_fresh_kinds.ps encoder_fresh_kinds.r encoder_fresh_reads.Post
    (λ κs s. s.0.now)
encoder_fresh_state κs a x y s t p q = p ∙ sym q

pub encode : OneResult 2 encode_kinds.ps encode_kinds.r encode_reads.Post
encode κs a x y s t p q = ap (λ (left : Left). left.refusal) (p ∙ sym q)

pub encode_state : OnePlaces 2 encode_kinds.ps encode_kinds.r encode_reads.Post
    (λ κs s. s.0.now)
encode_state κs a x y s t p q = ap (λ (left : Left). left.state) (p ∙ sym q)

pub encode_out : OnePlaces 2 encode_kinds.ps encode_kinds.r encode_reads.Post
    (λ κs s. s.1.1.1.0.now)
encode_out κs a x y s t p q = ap (λ (left : Left). left.out) (p ∙ sym q)

pub link_fresh_state : OnePlaces 1 link_fresh_kinds.ps link_fresh_kinds.r link_fresh_reads.Post
    (λ κs s. s.0.now)
link_fresh_state κs a x y s t p q = p ∙ sym q

pub time_fresh_time : OnePlaces 1 time_fresh_kinds.ps time_fresh_kinds.r time_fresh_reads.Post
    (λ κs s. s.0.now)
time_fresh_time κs a x y s t p q = p ∙ sym q

pub link_tick : OneResult 4 link_tick_kinds.ps link_tick_kinds.r link_tick_reads.Post
link_tick κs a x y s t p q = ap (λ (left : LinkLeft). left.refusal) (p ∙ sym q)

pub link_tick_state : OnePlaces 4 link_tick_kinds.ps link_tick_kinds.r link_tick_reads.Post
    (λ κs s. s.0.now)
link_tick_state κs a x y s t p q = ap (λ (left : LinkLeft). left.state) (p ∙ sym q)

pub link_tick_rx : OnePlaces 4 link_tick_kinds.ps link_tick_kinds.r link_tick_reads.Post
    (λ κs s. s.1.0.now)
link_tick_rx κs a x y s t p q = ap (λ (left : LinkLeft). left.places) (p ∙ sym q)

pub link_tick_out : OnePlaces 4 link_tick_kinds.ps link_tick_kinds.r link_tick_reads.Post
    (λ κs s. s.1.1.1.0.now)
link_tick_out κs a x y s t p q = ap (λ (left : LinkLeft). left.out) (p ∙ sym q)

pub link_reset : OneResult 4 link_reset_kinds.ps link_reset_kinds.r link_reset_reads.Post
link_reset κs a x y s t p q = ap (λ (left : LinkLeft). left.refusal) (p ∙ sym q)

pub link_reset_state : OnePlaces 4 link_reset_kinds.ps link_reset_kinds.r link_reset_reads.Post
    (λ κs s. s.0.now)
link_reset_state κs a x y s t p q = ap (λ (left : LinkLeft). left.state) (p ∙ sym q)

pub link_reset_rx : OnePlaces 4 link_reset_kinds.ps link_reset_kinds.r link_reset_reads.Post
    (λ κs s. s.1.0.now)
link_reset_rx κs a x y s t p q = ap (λ (left : LinkLeft). left.places) (p ∙ sym q)

pub link_reset_out : OnePlaces 4 link_reset_kinds.ps link_reset_kinds.r link_reset_reads.Post
    (λ κs s. s.1.1.1.0.now)
link_reset_out κs a x y s t p q = ap (λ (left : LinkLeft). left.out) (p ∙ sym q)

pub link_fault : OneResult 4 link_fault_kinds.ps link_fault_kinds.r link_fault_reads.Post
link_fault κs a x y s t p q = ap (λ (left : LinkLeft). left.refusal) (p ∙ sym q)

pub link_fault_state : OnePlaces 4 link_fault_kinds.ps link_fault_kinds.r link_fault_reads.Post
    (λ κs s. s.0.now)
link_fault_state κs a x y s t p q = ap (λ (left : LinkLeft). left.state) (p ∙ sym q)

pub link_fault_rx : OnePlaces 4 link_fault_kinds.ps link_fault_kinds.r link_fault_reads.Post
    (λ κs s. s.1.0.now)
link_fault_rx κs a x y s t p q = ap (λ (left : LinkLeft). left.places) (p ∙ sym q)

pub link_fault_out : OnePlaces 4 link_fault_kinds.ps link_fault_kinds.r link_fault_reads.Post
    (λ κs s. s.1.1.1.1.0.now)
link_fault_out κs a x y s t p q = ap (λ (left : LinkLeft). left.out) (p ∙ sym q)

pub link_control : OneResult 4 link_control_kinds.ps link_control_kinds.r link_control_reads.Post
link_control κs a x y s t p q = ap (λ (left : LinkLeft). left.refusal) (p ∙ sym q)

pub link_control_state : OnePlaces 4 link_control_kinds.ps link_control_kinds.r link_control_reads.Post
    (λ κs s. s.0.now)
link_control_state κs a x y s t p q = ap (λ (left : LinkLeft). left.state) (p ∙ sym q)

pub link_control_rx : OnePlaces 4 link_control_kinds.ps link_control_kinds.r link_control_reads.Post
    (λ κs s. s.1.0.now)
link_control_rx κs a x y s t p q = ap (λ (left : LinkLeft). left.places) (p ∙ sym q)

pub link_control_out : OnePlaces 4 link_control_kinds.ps link_control_kinds.r link_control_reads.Post
    (λ κs s. s.1.1.1.1.1.1.0.now)
link_control_out κs a x y s t p q = ap (λ (left : LinkLeft). left.out) (p ∙ sym q)

pub link_send : OneResult 4 link_send_kinds.ps link_send_kinds.r link_send_reads.Post
link_send κs a x y s t p q = ap (λ (left : LinkLeft). left.refusal) (p ∙ sym q)

pub link_send_state : OnePlaces 4 link_send_kinds.ps link_send_kinds.r link_send_reads.Post
    (λ κs s. s.0.now)
link_send_state κs a x y s t p q = ap (λ (left : LinkLeft). left.state) (p ∙ sym q)

pub link_send_rx : OnePlaces 4 link_send_kinds.ps link_send_kinds.r link_send_reads.Post
    (λ κs s. s.1.0.now)
link_send_rx κs a x y s t p q = ap (λ (left : LinkLeft). left.places) (p ∙ sym q)

pub link_send_out : OnePlaces 4 link_send_kinds.ps link_send_kinds.r link_send_reads.Post
    (λ κs s. s.1.1.1.0.now)
link_send_out κs a x y s t p q = ap (λ (left : LinkLeft). left.out) (p ∙ sym q)

pub link_receive : OneResult 5 link_receive_kinds.ps link_receive_kinds.r link_receive_reads.Post
link_receive κs a x y s t p q = ap (λ (left : ReceiveLeft). left.refusal) (p ∙ sym q)

pub link_receive_state : OnePlaces 5 link_receive_kinds.ps link_receive_kinds.r link_receive_reads.Post
    (λ κs s. s.0.now)
link_receive_state κs a x y s t p q = ap (λ (left : ReceiveLeft). left.state) (p ∙ sym q)

pub link_receive_rx : OnePlaces 5 link_receive_kinds.ps link_receive_kinds.r link_receive_reads.Post
    (λ κs s. s.1.0.now)
link_receive_rx κs a x y s t p q = ap (λ (left : ReceiveLeft). left.rx) (p ∙ sym q)

pub link_receive_time : OnePlaces 5 link_receive_kinds.ps link_receive_kinds.r link_receive_reads.Post
    (λ κs s. s.1.1.1.0.now)
link_receive_time κs a x y s t p q = ap (λ (left : ReceiveLeft). left.time) (p ∙ sym q)

pub link_receive_out : OnePlaces 5 link_receive_kinds.ps link_receive_kinds.r link_receive_reads.Post
    (λ κs s. s.1.1.1.1.1.1.0.now)
link_receive_out κs a x y s t p q = ap (λ (left : ReceiveLeft). left.out) (p ∙ sym q)

pub link_put : OneResult 3 link_put_kinds.ps link_put_kinds.r link_put_reads.Post
link_put κs a x y s t p q = ap (λ (left : LinkLeft). left.refusal) (p ∙ sym q)

pub link_put_state : OnePlaces 3 link_put_kinds.ps link_put_kinds.r link_put_reads.Post
    (λ κs s. s.0.now)
link_put_state κs a x y s t p q = ap (λ (left : LinkLeft). left.state) (p ∙ sym q)

pub link_put_tx : OnePlaces 3 link_put_kinds.ps link_put_kinds.r link_put_reads.Post
    (λ κs s. s.1.0.now)
link_put_tx κs a x y s t p q = ap (λ (left : LinkLeft). left.places) (p ∙ sym q)

pub link_put_out : OnePlaces 3 link_put_kinds.ps link_put_kinds.r link_put_reads.Post
    (λ κs s. s.1.1.1.0.now)
link_put_out κs a x y s t p q = ap (λ (left : LinkLeft). left.out) (p ∙ sym q)

pub link_take : OneResult 3 link_take_kinds.ps link_take_kinds.r link_take_reads.Post
link_take κs a x y s t p q = ap (λ (left : Left). left.refusal) (p ∙ sym q)

pub link_take_state : OnePlaces 3 link_take_kinds.ps link_take_kinds.r link_take_reads.Post
    (λ κs s. s.0.now)
link_take_state κs a x y s t p q = ap (λ (left : Left). left.state) (p ∙ sym q)

pub link_take_out : OnePlaces 3 link_take_kinds.ps link_take_kinds.r link_take_reads.Post
    (λ κs s. s.1.1.0.now)
link_take_out κs a x y s t p q = ap (λ (left : Left). left.out) (p ∙ sym q)

pub link_offer : OneResult 2 link_offer_kinds.ps link_offer_kinds.r link_offer_reads.Post
link_offer κs a x y s t p q = ap (λ (left : Left). left.refusal) (p ∙ sym q)

pub link_offer_state : OnePlaces 2 link_offer_kinds.ps link_offer_kinds.r link_offer_reads.Post
    (λ κs s. s.0.now)
link_offer_state κs a x y s t p q = ap (λ (left : Left). left.state) (p ∙ sym q)

pub link_offer_out : OnePlaces 2 link_offer_kinds.ps link_offer_kinds.r link_offer_reads.Post
    (λ κs s. s.1.1.0.now)
link_offer_out κs a x y s t p q = ap (λ (left : Left). left.out) (p ∙ sym q)

pub router_fresh_state : OnePlaces 1 router_fresh_kinds.ps router_fresh_kinds.r router_fresh_reads.Post
    (λ κs s. s.0.now)
router_fresh_state κs a x y s t p q = p ∙ sym q

pub table_fresh_table : OnePlaces 1 table_fresh_kinds.ps table_fresh_kinds.r table_fresh_reads.Post
    (λ κs s. s.0.now)
table_fresh_table κs a x y s t p q = p ∙ sym q

pub router_put : OneResult 2 router_put_kinds.ps router_put_kinds.r router_put_reads.Post
router_put κs a x y s t p q = ap (λ (left : RouterLeft). left.refusal) (p ∙ sym q)

pub router_put_state : OnePlaces 2 router_put_kinds.ps router_put_kinds.r router_put_reads.Post
    (λ κs s. s.0.now)
router_put_state κs a x y s t p q = ap (λ (left : RouterLeft). left.state) (p ∙ sym q)

pub router_put_area : OnePlaces 2 router_put_kinds.ps router_put_kinds.r router_put_reads.Post
    (λ κs s. s.1.0.now)
router_put_area κs a x y s t p q = ap (λ (left : RouterLeft). left.area) (p ∙ sym q)

pub router_take : OneResult 3 router_take_kinds.ps router_take_kinds.r router_take_reads.Post
router_take κs a x y s t p q = ap (λ (left : RouterLeft). left.refusal) (p ∙ sym q)

pub router_take_state : OnePlaces 3 router_take_kinds.ps router_take_kinds.r router_take_reads.Post
    (λ κs s. s.0.now)
router_take_state κs a x y s t p q = ap (λ (left : RouterLeft). left.state) (p ∙ sym q)

pub router_take_out : OnePlaces 3 router_take_kinds.ps router_take_kinds.r router_take_reads.Post
    (λ κs s. s.1.1.1.0.now)
router_take_out κs a x y s t p q = ap (λ (left : RouterLeft). left.out) (p ∙ sym q)

pub router_run : OneResult 4 router_run_kinds.ps router_run_kinds.r router_run_reads.Post
router_run κs a x y s t p q = ap (λ (left : RouterLeft). left.refusal) (p ∙ sym q)

pub router_run_state : OnePlaces 4 router_run_kinds.ps router_run_kinds.r router_run_reads.Post
    (λ κs s. s.0.now)
router_run_state κs a x y s t p q = ap (λ (left : RouterLeft). left.state) (p ∙ sym q)

pub router_run_area : OnePlaces 4 router_run_kinds.ps router_run_kinds.r router_run_reads.Post
    (λ κs s. s.1.0.now)
router_run_area κs a x y s t p q = ap (λ (left : RouterLeft). left.area) (p ∙ sym q)

pub router_run_out : OnePlaces 4 router_run_kinds.ps router_run_kinds.r router_run_reads.Post
    (λ κs s. s.1.1.1.1.0.now)
router_run_out κs a x y s t p q = ap (λ (left : RouterLeft). left.out) (p ∙ sym q)

pub router_write_row : OneResult 2 router_write_row_kinds.ps router_write_row_kinds.r router_write_row_reads.Post
router_write_row κs a x y s t p q = p.0 ∙ sym q.0

pub router_write_row_table : OnePlaces 2 router_write_row_kinds.ps router_write_row_kinds.r router_write_row_reads.Post
    (λ κs s. s.1.0.now)
router_write_row_table κs a x y s t p q = p.1 ∙ sym q.1

pub router_read_row : OneResult 3 router_read_row_kinds.ps router_read_row_kinds.r router_read_row_reads.Post
router_read_row κs a x y s t p q = p.0 ∙ sym q.0

pub router_read_row_out : OnePlaces 3 router_read_row_kinds.ps router_read_row_kinds.r router_read_row_reads.Post
    (λ κs s. s.1.1.1.0.now)
router_read_row_out κs a x y s t p q = p.1 ∙ sym q.1

pub router_still_held : OneResult 2 router_still_held_kinds.ps router_still_held_kinds.r router_still_held_reads.Post
router_still_held κs a x y s t p q = ap (λ (left : HeldLeft). left.refusal) (p ∙ sym q)

pub router_still_held_out : OnePlaces 2 router_still_held_kinds.ps router_still_held_kinds.r router_still_held_reads.Post
    (λ κs s. s.1.1.0.now)
router_still_held_out κs a x y s t p q = ap (λ (left : HeldLeft). left.out) (p ∙ sym q)
