-- The promises of the calls that 01, The ten refusals, speaks of, as C makes them: each as the toolchain reads it from the contract.
-- Assumes nothing.
use Rattle.std.specs.Prelude.{List, ℕ}
use contract.Lifetimes.{Lfts}
use denote.Triple.Clauses.{AtExit}
use borrow.Fn.Kinds.{ParamKind, ResultKind, Out, Dens, res_t, ended_of}
use Rattle.neftolek.proofs.character_calls.neftolek_encode as encode
use Rattle.neftolek.proofs.character_calls.neftolek_decoder_bit as bit
use Rattle.neftolek.proofs.character_calls.neftolek_decoder_tick as decoder_tick
use Rattle.neftolek.proofs.link_calls.neftolek_link_tick as tick
use Rattle.neftolek.proofs.link_calls.neftolek_link_fault as fault
use Rattle.neftolek.proofs.link_calls.neftolek_link_control as control
use Rattle.neftolek.proofs.link_calls.neftolek_link_reset as reset
use Rattle.neftolek.proofs.link_calls.neftolek_link_send as send
use Rattle.neftolek.proofs.link_calls.neftolek_link_receive as receive
use Rattle.neftolek.proofs.link_calls.neftolek_link_put as put
use Rattle.neftolek.proofs.link_calls.neftolek_link_take as take
use Rattle.neftolek.proofs.link_calls.neftolek_link_offer as offer
use Rattle.neftolek.proofs.router_calls.neftolek_router_put as router_put
use Rattle.neftolek.proofs.router_calls.neftolek_router_take as router_take
use Rattle.neftolek.proofs.router_calls.neftolek_router_run as router_run
use Rattle.neftolek.proofs.router_calls.neftolek_router_write_row as router_write
use Rattle.neftolek.proofs.router_calls.neftolek_router_read_row as router_read
use Rattle.neftolek.proofs.held_calls.neftolek_router_still_held as router_held

-- the promise of a function with these parameters and this result
pub record Promise : Type 3 where
  pub lifetimes : ℕ
  pub parameters : List (ParamKind lifetimes)
  pub result : ResultKind lifetimes
  pub says : Out lifetimes parameters result

abbrev pub promise : (n : ℕ) (ps : List (ParamKind n)) (r : ResultKind n) → Out n ps r → Promise
promise n ps r says = record { lifetimes = n; parameters = ps; result = r; says = says }

abbrev pub Arguments : Promise → Type 0
Arguments p = (κs : Lfts p.lifetimes) → Dens κs p.parameters

-- what is left in what was lent, when it returns
abbrev pub Leavings : (p : Promise) → Lfts p.lifetimes → Type 0
Leavings p κs = AtExit (ended_of p.lifetimes p.parameters p.result) κs

-- an answer, and what is left
abbrev pub Done : (p : Promise) → Lfts p.lifetimes → Type 0
Done p κs = (res_t p.result κs).Denot × Leavings p κs

-- a build of the function: what it answers to whatever it is handed, and what it leaves in what it was lent
abbrev pub Build : Promise → Type 0
Build p = (κs : Lfts p.lifetimes) → Dens κs p.parameters → Done p κs

-- a number that stands in its answer or in what is left
abbrev pub Number : Promise → Type 0
Number p = (κs : Lfts p.lifetimes) → Done p κs → ℕ

-- with what it answers and leaves at these arguments the promise is broken
abbrev pub BreaksAt : (p : Promise) → Arguments p → Build p → Type 0
BreaksAt p at build =
    (κs : Lfts p.lifetimes) → p.says κs (at κs) (build κs (at κs)).0 (build κs (at κs)).1 → ⊥

abbrev pub Encode : Promise
Encode = promise 2 encode.Kinds.ps encode.Kinds.r encode.Reads.Post

abbrev pub Bit : Promise
Bit = promise 2 bit.Kinds.ps bit.Kinds.r bit.Reads.Post

abbrev pub DecoderTick : Promise
DecoderTick = promise 2 decoder_tick.Kinds.ps decoder_tick.Kinds.r decoder_tick.Reads.Post

abbrev pub Tick : Promise
Tick = promise 4 tick.Kinds.ps tick.Kinds.r tick.Reads.Post

abbrev pub Fault : Promise
Fault = promise 4 fault.Kinds.ps fault.Kinds.r fault.Reads.Post

abbrev pub Control : Promise
Control = promise 4 control.Kinds.ps control.Kinds.r control.Reads.Post

abbrev pub Reset : Promise
Reset = promise 4 reset.Kinds.ps reset.Kinds.r reset.Reads.Post

abbrev pub Send : Promise
Send = promise 4 send.Kinds.ps send.Kinds.r send.Reads.Post

abbrev pub Receive : Promise
Receive = promise 5 receive.Kinds.ps receive.Kinds.r receive.Reads.Post

abbrev pub Put : Promise
Put = promise 3 put.Kinds.ps put.Kinds.r put.Reads.Post

abbrev pub Take : Promise
Take = promise 3 take.Kinds.ps take.Kinds.r take.Reads.Post

abbrev pub Offer : Promise
Offer = promise 2 offer.Kinds.ps offer.Kinds.r offer.Reads.Post

abbrev pub RouterPut : Promise
RouterPut = promise 2 router_put.Kinds.ps router_put.Kinds.r router_put.Reads.Post

abbrev pub RouterTake : Promise
RouterTake = promise 3 router_take.Kinds.ps router_take.Kinds.r router_take.Reads.Post

abbrev pub RouterRun : Promise
RouterRun = promise 4 router_run.Kinds.ps router_run.Kinds.r router_run.Reads.Post

abbrev pub RouterWrite : Promise
RouterWrite = promise 2 router_write.Kinds.ps router_write.Kinds.r router_write.Reads.Post

abbrev pub RouterRead : Promise
RouterRead = promise 3 router_read.Kinds.ps router_read.Kinds.r router_read.Reads.Post

abbrev pub RouterHeld : Promise
RouterHeld = promise 2 router_held.Kinds.ps router_held.Kinds.r router_held.Reads.Post
