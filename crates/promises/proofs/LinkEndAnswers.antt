-- `link`: each promise is an equation with a definition, so two answers that it allows are one.
-- Assumes nothing.
use mathlib.Core.Path.{refl, sym, ap, ◌∙◌}
use Rattle.promises.specs.OneAnswer.{OneResult, OnePlaces}
use Rattle.vocabulary.proofs.RefusalLaws.{one_result}
use Rattle.words.specs.Words.{Left, word_at}
use Rattle.link.specs.Answers.{nothing_sent, nothing_received}
use Rattle.link.specs.LinkCalls.{LinkLeft, ReceiveLeft}
use Rattle.link.proofs.AnswerLaws.{one_sent, one_received}
use Rattle.link.proofs.U32FromLinkState.from.Kinds as state_number_kinds
use Rattle.link.proofs.U32FromLinkState.from.Reads as state_number_reads
use Rattle.link.proofs.FaultKindTryFromU32.try_from.Kinds as fault_kind_kinds
use Rattle.link.proofs.FaultKindTryFromU32.try_from.Reads as fault_kind_reads
use Rattle.link.proofs.calls.ArrayU323FromSent.from.Kinds as sent_words_kinds
use Rattle.link.proofs.calls.ArrayU323FromSent.from.Reads as sent_words_reads
use Rattle.link.proofs.calls.ArrayU322FromReceived.from.Kinds as received_words_kinds
use Rattle.link.proofs.calls.ArrayU322FromReceived.from.Reads as received_words_reads
use Rattle.link.proofs.calls.fresh.Kinds as fresh_kinds
use Rattle.link.proofs.calls.fresh.Reads as fresh_reads
use Rattle.link.proofs.calls.fresh_time.Kinds as fresh_time_kinds
use Rattle.link.proofs.calls.fresh_time.Reads as fresh_time_reads
use Rattle.link.proofs.calls.tick.Kinds as tick_kinds
use Rattle.link.proofs.calls.tick.Reads as tick_reads
use Rattle.link.proofs.calls.reset.Kinds as reset_kinds
use Rattle.link.proofs.calls.reset.Reads as reset_reads
use Rattle.link.proofs.calls.fault.Kinds as fault_kinds
use Rattle.link.proofs.calls.fault.Reads as fault_reads
use Rattle.link.proofs.calls.control.Kinds as control_kinds
use Rattle.link.proofs.calls.control.Reads as control_reads
use Rattle.link.proofs.calls.send.Kinds as send_kinds
use Rattle.link.proofs.calls.send.Reads as send_reads
use Rattle.link.proofs.calls.receive.Kinds as receive_kinds
use Rattle.link.proofs.calls.receive.Reads as receive_reads
use Rattle.link.proofs.calls.put.Kinds as put_kinds
use Rattle.link.proofs.calls.put.Reads as put_reads
use Rattle.link.proofs.calls.take.Kinds as take_kinds
use Rattle.link.proofs.calls.take.Reads as take_reads
use Rattle.link.proofs.calls.offer.Kinds as offer_kinds
use Rattle.link.proofs.calls.offer.Reads as offer_reads

pub state_number : OneResult 0 state_number_kinds.ps state_number_kinds.r state_number_reads.Post
state_number κs a x y s t p q = p ∙ sym q

pub fault_kind : OneResult 0 fault_kind_kinds.ps fault_kind_kinds.r fault_kind_reads.Post
fault_kind κs a x y s t p q = p ∙ sym q

pub sent_words : OneResult 0 sent_words_kinds.ps sent_words_kinds.r sent_words_reads.Post
sent_words κs a x y s t p q = p ∙ sym q

pub received_words : OneResult 0 received_words_kinds.ps received_words_kinds.r received_words_reads.Post
received_words κs a x y s t p q = p ∙ sym q

pub fresh_words : OnePlaces 1 fresh_kinds.ps fresh_kinds.r fresh_reads.Post
    (λ κs s. s.0.now)
fresh_words κs a x y s t p q = p ∙ sym q

pub fresh_time_time : OnePlaces 1 fresh_time_kinds.ps fresh_time_kinds.r fresh_time_reads.Post
    (λ κs s. s.0.now)
fresh_time_time κs a x y s t p q = p ∙ sym q

pub tick : OneResult 3 tick_kinds.ps tick_kinds.r tick_reads.Post
tick κs a x y s t p q =
    let same = p ∙ sym q in
    one_result 0 x y (ap (λ (left : LinkLeft). left.refusal) same) (ap (λ (left : LinkLeft). word_at left.out 0) same)

pub tick_words : OnePlaces 3 tick_kinds.ps tick_kinds.r tick_reads.Post
    (λ κs s. s.0.now)
tick_words κs a x y s t p q = ap (λ (left : LinkLeft). left.state) (p ∙ sym q)

pub tick_rx : OnePlaces 3 tick_kinds.ps tick_kinds.r tick_reads.Post
    (λ κs s. s.1.0.now)
tick_rx κs a x y s t p q = ap (λ (left : LinkLeft). left.places) (p ∙ sym q)

pub reset : OneResult 3 reset_kinds.ps reset_kinds.r reset_reads.Post
reset κs a x y s t p q =
    let same = p ∙ sym q in
    one_result 0 x y (ap (λ (left : LinkLeft). left.refusal) same) (ap (λ (left : LinkLeft). word_at left.out 0) same)

pub reset_words : OnePlaces 3 reset_kinds.ps reset_kinds.r reset_reads.Post
    (λ κs s. s.0.now)
reset_words κs a x y s t p q = ap (λ (left : LinkLeft). left.state) (p ∙ sym q)

pub reset_rx : OnePlaces 3 reset_kinds.ps reset_kinds.r reset_reads.Post
    (λ κs s. s.1.0.now)
reset_rx κs a x y s t p q = ap (λ (left : LinkLeft). left.places) (p ∙ sym q)

pub fault : OneResult 3 fault_kinds.ps fault_kinds.r fault_reads.Post
fault κs a x y s t p q =
    let same = p ∙ sym q in
    one_result 0 x y (ap (λ (left : LinkLeft). left.refusal) same) (ap (λ (left : LinkLeft). word_at left.out 0) same)

pub fault_words : OnePlaces 3 fault_kinds.ps fault_kinds.r fault_reads.Post
    (λ κs s. s.0.now)
fault_words κs a x y s t p q = ap (λ (left : LinkLeft). left.state) (p ∙ sym q)

pub fault_rx : OnePlaces 3 fault_kinds.ps fault_kinds.r fault_reads.Post
    (λ κs s. s.1.0.now)
fault_rx κs a x y s t p q = ap (λ (left : LinkLeft). left.places) (p ∙ sym q)

pub control : OneResult 3 control_kinds.ps control_kinds.r control_reads.Post
control κs a x y s t p q =
    let same = p ∙ sym q in
    one_result 0 x y (ap (λ (left : LinkLeft). left.refusal) same) (ap (λ (left : LinkLeft). word_at left.out 0) same)

pub control_words : OnePlaces 3 control_kinds.ps control_kinds.r control_reads.Post
    (λ κs s. s.0.now)
control_words κs a x y s t p q = ap (λ (left : LinkLeft). left.state) (p ∙ sym q)

pub control_rx : OnePlaces 3 control_kinds.ps control_kinds.r control_reads.Post
    (λ κs s. s.1.0.now)
control_rx κs a x y s t p q = ap (λ (left : LinkLeft). left.places) (p ∙ sym q)

pub send : OneResult 3 send_kinds.ps send_kinds.r send_reads.Post
send κs a x y s t p q =
    let same = p ∙ sym q in
    one_result nothing_sent x y (ap (λ (left : LinkLeft). left.refusal) same)
    (one_sent _ _ (ap (λ (left : LinkLeft). left.out) same))

pub send_words : OnePlaces 3 send_kinds.ps send_kinds.r send_reads.Post
    (λ κs s. s.0.now)
send_words κs a x y s t p q = ap (λ (left : LinkLeft). left.state) (p ∙ sym q)

pub send_rx : OnePlaces 3 send_kinds.ps send_kinds.r send_reads.Post
    (λ κs s. s.1.0.now)
send_rx κs a x y s t p q = ap (λ (left : LinkLeft). left.places) (p ∙ sym q)

pub receive : OneResult 4 receive_kinds.ps receive_kinds.r receive_reads.Post
receive κs a x y s t p q =
    let same = p ∙ sym q in
    one_result nothing_received x y (ap (λ (left : ReceiveLeft). left.refusal) same)
    (one_received _ _ (ap (λ (left : ReceiveLeft). left.out) same))

pub receive_words : OnePlaces 4 receive_kinds.ps receive_kinds.r receive_reads.Post
    (λ κs s. s.0.now)
receive_words κs a x y s t p q = ap (λ (left : ReceiveLeft). left.state) (p ∙ sym q)

pub receive_rx : OnePlaces 4 receive_kinds.ps receive_kinds.r receive_reads.Post
    (λ κs s. s.1.0.now)
receive_rx κs a x y s t p q = ap (λ (left : ReceiveLeft). left.rx) (p ∙ sym q)

pub receive_time : OnePlaces 4 receive_kinds.ps receive_kinds.r receive_reads.Post
    (λ κs s. s.1.1.1.0.now)
receive_time κs a x y s t p q = ap (λ (left : ReceiveLeft). left.time) (p ∙ sym q)

pub put : OneResult 2 put_kinds.ps put_kinds.r put_reads.Post
put κs a x y s t p q =
    let same = p ∙ sym q in
    one_result 0 x y (ap (λ (left : LinkLeft). left.refusal) same) (ap (λ (left : LinkLeft). word_at left.out 0) same)

pub put_words : OnePlaces 2 put_kinds.ps put_kinds.r put_reads.Post
    (λ κs s. s.0.now)
put_words κs a x y s t p q = ap (λ (left : LinkLeft). left.state) (p ∙ sym q)

pub put_tx : OnePlaces 2 put_kinds.ps put_kinds.r put_reads.Post
    (λ κs s. s.1.0.now)
put_tx κs a x y s t p q = ap (λ (left : LinkLeft). left.places) (p ∙ sym q)

pub take : OneResult 2 take_kinds.ps take_kinds.r take_reads.Post
take κs a x y s t p q =
    let same = p ∙ sym q in
    one_result 0 x y (ap (λ (left : Left). left.refusal) same) (ap (λ (left : Left). word_at left.out 1) same)

pub take_words : OnePlaces 2 take_kinds.ps take_kinds.r take_reads.Post
    (λ κs s. s.0.now)
take_words κs a x y s t p q = ap (λ (left : Left). left.state) (p ∙ sym q)

pub offer : OneResult 1 offer_kinds.ps offer_kinds.r offer_reads.Post
offer κs a x y s t p q =
    let same = p ∙ sym q in
    one_result tt x y (ap (λ (left : Left). left.refusal) same) refl

pub offer_words : OnePlaces 1 offer_kinds.ps offer_kinds.r offer_reads.Post
    (λ κs s. s.0.now)
offer_words κs a x y s t p q = ap (λ (left : Left). left.state) (p ∙ sym q)
