-- 01, How tight each promise is: "Five worthless builds have to be shut out." The promises of the calls that Rust makes, of the
-- crates `characters`, `link` and `router`: every build of the five kinds breaks one of these too, at the same arguments.
-- Assumes nothing.
use Rattle.std.specs.Prelude.{◌≡◌, true, false, ℕ, suc, List, [], ◌∷◌, eqb, None, Some, Ok, Err}
use contract.Lifetimes.{Lfts}
use Rattle.std.specs.Borrow.{Bor}
use denote.MutBor.{MutBor}
use borrow.Fn.Kinds.{Dens}
use Rattle.vocabulary.specs.Choice.{pick}
use Rattle.vocabulary.specs.NChars.{EOP}
use Rattle.vocabulary.specs.Refusals.{STATE as IS_STATE, refusal_in, answer_in}
use Rattle.vocabulary.specs.declared.Token.{Token}
use Rattle.vocabulary.specs.declared.Token.TheVariants.{Null, Fct}
use Rattle.vocabulary.specs.Tokens.{kind_of}
use Rattle.words.specs.Words.{word_at}
use Rattle.characters.specs.declared.reports.Report.TheVariants.{Got}
use Rattle.characters.specs.declared.reports.Waiting.TheVariants.{Whole}
use Rattle.characters.specs.Encoder.{fresh_encoder}
use Rattle.characters.specs.States.{Parity, Fresh, Heard}
use Rattle.characters.specs.DecoderWords.{decoder_words, bit_left}
use Rattle.characters.specs.EncoderWords.{encoder_words}
use Rattle.time.specs.Time.{fresh_time}
use Rattle.link.specs.Ends.{fresh_link, with_stage}
use Rattle.link.specs.LinkWords.{STATE, time_words}
use Rattle.link.specs.LinkCalls.{LinkLeft, put_left}
use Rattle.link.specs.declared.LinkState.TheVariants.{ErrorReset}
use Rattle.router_ports.specs.Ports.{fresh_router}
use Rattle.router_ports.specs.RouterWords.{router_words}
use Rattle.router.specs.Records.{none_ran}
use Rattle.router.specs.RouterCalls.{RouterLeft, run_left}
use Rattle.router.specs.Cases.{smallest, holding}
use Rattle.characters.proofs.encoder.encode as encode
use Rattle.characters.proofs.decoder.bit as bit
use Rattle.characters.proofs.decoder.tick as decoder_tick
use Rattle.link.proofs.calls.tick as tick
use Rattle.link.proofs.calls.fault as fault
use Rattle.link.proofs.calls.control as control
use Rattle.link.proofs.calls.reset as reset
use Rattle.link.proofs.calls.send as send
use Rattle.link.proofs.calls.receive as receive
use Rattle.link.proofs.calls.put as put
use Rattle.link.proofs.calls.take as take
use Rattle.link.proofs.calls.offer as offer
use Rattle.router.proofs.put as router_put
use Rattle.router.proofs.take as router_take
use Rattle.router.proofs.run as router_run
use Rattle.router.proofs.write_row as router_write
use Rattle.router.proofs.read_row as router_read
use Rattle.router.proofs.still_held as router_held
use Rattle.promises.specs.Promises.{Done, Promise, promise, Arguments, Build, BreaksAt}
use Rattle.promises.specs.Worthless.{lent, shown, link, rx, tx, router, area, table, RefusesAll, NoneRefusesAll}
use Rattle.promises.specs.Worthless.{one_received, one_routed, in_run, Invents, NoneInvents, waiting_to_send, discarding}

-- ---- the promises, under the names that `Promises` gives to those of the same calls from C

abbrev pub Encode : Promise
Encode = promise 1 encode.Kinds.ps encode.Kinds.r encode.Reads.Post

abbrev pub Bit : Promise
Bit = promise 1 bit.Kinds.ps bit.Kinds.r bit.Reads.Post

abbrev pub DecoderTick : Promise
DecoderTick = promise 1 decoder_tick.Kinds.ps decoder_tick.Kinds.r decoder_tick.Reads.Post

abbrev pub Tick : Promise
Tick = promise 3 tick.Kinds.ps tick.Kinds.r tick.Reads.Post

abbrev pub Fault : Promise
Fault = promise 3 fault.Kinds.ps fault.Kinds.r fault.Reads.Post

abbrev pub Control : Promise
Control = promise 3 control.Kinds.ps control.Kinds.r control.Reads.Post

abbrev pub Reset : Promise
Reset = promise 3 reset.Kinds.ps reset.Kinds.r reset.Reads.Post

abbrev pub Send : Promise
Send = promise 3 send.Kinds.ps send.Kinds.r send.Reads.Post

abbrev pub Receive : Promise
Receive = promise 4 receive.Kinds.ps receive.Kinds.r receive.Reads.Post

abbrev pub Put : Promise
Put = promise 2 put.Kinds.ps put.Kinds.r put.Reads.Post

abbrev pub Take : Promise
Take = promise 2 take.Kinds.ps take.Kinds.r take.Reads.Post

abbrev pub Offer : Promise
Offer = promise 1 offer.Kinds.ps offer.Kinds.r offer.Reads.Post

abbrev pub RouterPut : Promise
RouterPut = promise 2 router_put.Kinds.ps router_put.Kinds.r router_put.Reads.Post

abbrev pub RouterTake : Promise
RouterTake = promise 2 router_take.Kinds.ps router_take.Kinds.r router_take.Reads.Post

abbrev pub RouterRun : Promise
RouterRun = promise 3 router_run.Kinds.ps router_run.Kinds.r router_run.Reads.Post

abbrev pub RouterWrite : Promise
RouterWrite = promise 2 router_write.Kinds.ps router_write.Kinds.r router_write.Reads.Post

abbrev pub RouterRead : Promise
RouterRead = promise 2 router_read.Kinds.ps router_read.Kinds.r router_read.Reads.Post

abbrev pub RouterHeld : Promise
RouterHeld = promise 1 router_held.Kinds.ps router_held.Kinds.r router_held.Reads.Post

-- ---- "One that refuses all": no answer of it is `Ok`, whatever it is handed
pub record RefusingCalls : Type 0 where
  pub encode : NoneRefusesAll Encode (λ κs d. refusal_in d.0) (λ κs. (lent (encoder_words fresh_encoder), (kind_of Null, (0, tt))))
  pub bit : NoneRefusesAll Bit (λ κs d. refusal_in d.0) (λ κs. (lent (decoder_words Fresh), (0, tt)))
  pub decoder_tick : NoneRefusesAll DecoderTick (λ κs d. refusal_in d.0) (λ κs. (lent (decoder_words Fresh), tt))
  pub tick : NoneRefusesAll Tick (λ κs d. refusal_in d.0) (λ κs. (link fresh_link, (lent rx, (shown tx, tt))))
  pub fault : NoneRefusesAll Fault (λ κs d. refusal_in d.0) (λ κs. (link fresh_link, (lent rx, (shown tx, (7, tt)))))
  pub control :
      NoneRefusesAll Control (λ κs d. refusal_in d.0) (λ κs. (link fresh_link, (lent rx, (shown tx, (0, (1, (0, tt)))))))
  pub reset : NoneRefusesAll Reset (λ κs d. refusal_in d.0) (λ κs. (link fresh_link, (lent rx, (shown tx, tt))))
  pub send : NoneRefusesAll Send (λ κs d. refusal_in d.0) (λ κs. (link fresh_link, (lent rx, (shown tx, tt))))
  pub receive :
      NoneRefusesAll Receive (λ κs d. refusal_in d.0)
      (λ κs. (link fresh_link, (lent rx, (shown tx, (lent (time_words fresh_time), (kind_of Null, (0, tt)))))))
  pub put : NoneRefusesAll Put (λ κs d. refusal_in d.0) (λ κs. (link fresh_link, (lent tx, (65, tt))))
  pub take : NoneRefusesAll Take (λ κs d. refusal_in d.0) (λ κs. (link one_received, (shown rx, tt)))
  pub offer : NoneRefusesAll Offer (λ κs d. refusal_in d.0) (λ κs. (link in_run, (5, tt)))
  pub router_put : NoneRefusesAll RouterPut (λ κs d. refusal_in d.0) (λ κs. (router fresh_router, (lent area, (1, (65, tt)))))
  pub router_take : NoneRefusesAll RouterTake (λ κs d. refusal_in d.0) (λ κs. (router one_routed, (shown area, (3, tt))))
  pub router_run :
      NoneRefusesAll RouterRun (λ κs d. refusal_in d.0) (λ κs. (router fresh_router, (lent area, (shown table, (1, tt)))))
  pub router_write :
      NoneRefusesAll RouterWrite (λ κs d. refusal_in d.0) (λ κs. (shown (router_words fresh_router), (lent table, (39, (4, tt)))))
  pub router_read :
      NoneRefusesAll RouterRead (λ κs d. refusal_in d.0) (λ κs. (shown (router_words fresh_router), (shown table, (39, tt))))
  pub router_held : NoneRefusesAll RouterHeld (λ κs d. refusal_in d.0) (λ κs. (shown (router_words fresh_router), (1, tt)))

-- ---- "A decoder that always says NULL": whatever token it reports, it is NULL
abbrev pub SaysOnlyNull : Build Bit → Type 0
SaysOnlyNull build =
    (κs : Lfts 1) (a : Dens κs Bit.parameters) (t : Token) → answer_in None (build κs a).0 ≡ Some (Got t) → t ≡ Null

-- bit 14 of the listing's example: an FCT waits, the parity bit was 1, and this is the flag 0
abbrev pub bit14 : Arguments Bit
bit14 κs = (lent (decoder_words (Heard (Parity (Whole Fct) true) 0)), (0, tt))

-- ---- "An end that does nothing and stays in ErrorReset": no tick moves it from there
abbrev pub StaysInErrorReset : Build Tick → Type 0
StaysInErrorReset build =
    (κs : Lfts 3) (a : Dens κs Tick.parameters) →
    word_at a.0.now STATE ≡ 0 → word_at (build κs a).1.0.now STATE ≡ 0

-- the tick that finds the timer at 63
abbrev pub tick64 : Arguments Tick
tick64 κs = (
  link (with_stage fresh_link (record { state = ErrorReset; timer = 63; gotnull = false; nullsent = false })),
  (lent rx, (shown tx, tt)),
)

-- ---- "A router right in round one and idle later": one round or more leave the words that one leaves
abbrev pub IdleLater : Build RouterRun → Type 0
IdleLater build =
    (κs : Lfts 3) (words area : MutBor (List ℕ)) (table : Bor (List ℕ)) (more : ℕ) →
    (build κs (words, (area, (table, (suc more, tt))))).1.0.now
    ≡ (run_left words.now area.now table.now 1).state

-- a run of 10, as of the paper's two examples: input 1 holds 3, 65, EOP, and input 1 holds 11, EOP
abbrev pub run_of10 : List ℕ → Arguments RouterRun
run_of10 held κs = (
  router (holding smallest 1 held).router,
  (lent (holding smallest 1 held).area, (shown table, (10, tt))),
)

abbrev pub to_output3 : Arguments RouterRun
to_output3 = run_of10 (3 ∷ 65 ∷ EOP ∷ [])

abbrev pub to_nowhere : Arguments RouterRun
to_nowhere = run_of10 (11 ∷ EOP ∷ [])

-- ---- "Invented numbers of discarded, moved or run": another number than this one is answered to these arguments
abbrev pub put_while_discarding : Arguments Put
put_while_discarding κs = (link discarding, (lent tx, (65, tt)))

pub record InventingCalls : Type 0 where
  -- discarded: an N-Char put to an end that discards; all that a reset finds; what a fault finds through the first end
  pub put : NoneInvents Put (λ κs d. answer_in 0 d.0) put_while_discarding 1
  pub reset :
      NoneInvents Reset (λ κs d. answer_in 0 d.0) (λ κs. (link (waiting_to_send 3 fresh_link), (lent rx, (shown tx, tt)))) 3
  pub fault :
      NoneInvents Fault (λ κs d. answer_in 0 d.0) (λ κs. (link (waiting_to_send 3 in_run), (lent rx, (shown tx, (7, tt))))) 2
  pub rounds : NoneInvents RouterRun (λ κs d. (answer_in none_ran d.0).rounds) to_output3 3
  pub moved : NoneInvents RouterRun (λ κs d. (answer_in none_ran d.0).moved) to_output3 2
  pub errors : NoneInvents RouterRun (λ κs d. (answer_in none_ran d.0).errors) to_nowhere 1

-- every build of the five kinds breaks a promise
pub record WorthlessCallsShutOut : Type 0 where
  pub refusing_all : RefusingCalls
  pub saying_null : (build : Build Bit) → SaysOnlyNull build → BreaksAt Bit bit14 build
  pub staying : (build : Build Tick) → StaysInErrorReset build → BreaksAt Tick tick64 build
  pub idle_later : (build : Build RouterRun) → IdleLater build → BreaksAt RouterRun to_output3 build
  pub inventing : InventingCalls

-- ---- a build of each kind, so that none of the five is empty

abbrev pub refuser : Build Bit
refuser κs a = (Err IS_STATE, (a.0, (a.1.0, tt)))

abbrev pub null_sayer : Build Bit
null_sayer κs a = (Ok (Some (Got Null)), (lent (bit_left a.0.now a.1.0).state, (a.1.0, tt)))

abbrev pub sleeper : Build Tick
sleeper κs a = (Ok 0, (a.0, (a.1.0, (a.1.1.0, tt))))

abbrev pub one_rounder : Build RouterRun
one_rounder κs a = told (run_left a.0.now a.1.0.now a.1.1.0.now 1)
  where
    told : RouterLeft → Done RouterRun κs
    told left = (
      pick (eqb left.refusal 0)
          (Ok (record { rounds = word_at left.out 0; moved = word_at left.out 1; errors = word_at left.out 2 }))
          (Err IS_STATE),
      (lent left.state, (lent left.area, (a.1.1.0, (a.1.1.1.0, tt)))),
    )

abbrev pub undercounter : Build Put
undercounter κs a = told (put_left a.0.now a.1.0.now a.1.1.0)
  where
    told : LinkLeft → Done Put κs
    told left = (Ok 0, (lent left.state, (lent left.places, (a.1.1.0, tt))))

pub record WorthlessCalls : Type 0 where
  pub refuses_all : RefusesAll Bit (λ κs d. refusal_in d.0) refuser
  pub says_null : SaysOnlyNull null_sayer
  pub stays : StaysInErrorReset sleeper
  pub idles_later : IdleLater one_rounder
  pub invents : Invents Put (λ κs d. answer_in 0 d.0) put_while_discarding 1 undercounter
