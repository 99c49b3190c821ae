-- 01, How tight each promise is: "Five worthless builds have to be shut out." Of each, what makes it worthless, and the
-- promises that every such build breaks, at arguments named here.
-- Assumes nothing.
use Rattle.std.specs.Prelude.{◌≡◌, true, false, List, [], ◌∷◌, ℕ, suc, ◌≤◌, replicate, eqb, leb}
use contract.Lifetimes.{Lfts}
use Rattle.std.specs.Borrow.{Bor}
use denote.MutBor.{MutBor}
use borrow.Fn.Kinds.{Dens}
use Rattle.vocabulary.specs.Choice.{pick}
use Rattle.vocabulary.specs.NChars.{EOP}
use Rattle.vocabulary.specs.declared.Token.TheVariants.{Null, Fct}
use Rattle.vocabulary.specs.Tokens.{kind_of}
use Rattle.words.specs.Words.{Left, word_at}
use Rattle.characters.specs.Encoder.{fresh_encoder}
use Rattle.characters.specs.declared.reports.Waiting.TheVariants.{Whole}
use Rattle.characters.specs.States.{Parity, Fresh, Heard}
use Rattle.characters.specs.DecoderWords.{decoder_words, bit_left}
use Rattle.characters.specs.EncoderWords.{encoder_words}
use Rattle.time.specs.Time.{fresh_time}
use Rattle.link.specs.Ends.{fresh_link, with_stage, with_marks, with_rx, with_tx}
use Rattle.link.specs.LinkWords.{STATE, link_words, time_words}
use Rattle.link.specs.LinkCalls.{LinkLeft, put_left}
use Rattle.link.specs.declared.LinkState.TheVariants.{ErrorReset, Run as InRun}
use Rattle.link.specs.Records.{Link}
use Rattle.router_table.specs.Rows.{fresh_table}
use Rattle.router_ports.specs.Ports.{fresh_router, output_store, with_store}
use Rattle.router_ports.specs.RouterWords.{router_words}
use Rattle.router_ports.specs.Records.{Router}
use Rattle.router.specs.RouterCalls.{RouterLeft, run_left}
use Rattle.router.specs.Cases.{smallest, holding}
use Rattle.promises.specs.Promises.{Done, Promise, Arguments, Build, Number, BreaksAt, Encode, Bit, DecoderTick}
use Rattle.promises.specs.Promises.{Tick, Fault, Control, Reset, Send, Receive, Put, Take, Offer, RouterPut}
use Rattle.promises.specs.Promises.{RouterTake, RouterRun, RouterWrite, RouterRead, RouterHeld}

-- what words or places hold that are lent to a call to be changed, or to be read; where they lie is nothing to the promise
abbrev pub lent : List ℕ → MutBor (List ℕ)
lent held = record { ref_ptr = (0, 0); ghost_name = 0; now = held }

abbrev pub shown : List ℕ → Bor (List ℕ)
shown held = record { ref_ptr = (0, 0); now = held }

-- a fresh end, words for answers, places for a link end's two stores, a router's area of nine places each, and its table
abbrev pub link : Link → MutBor (List ℕ)
link l = lent (link_words l)

abbrev pub out : ℕ → MutBor (List ℕ)
out count = lent (replicate count 0)

abbrev pub rx : List ℕ
rx = replicate 9 0

abbrev pub tx : List ℕ
tx = 65 ∷ EOP ∷ 66 ∷ []

abbrev pub router : Router → MutBor (List ℕ)
router s = lent (router_words s)

abbrev pub area : List ℕ
area = replicate 198 0

abbrev pub table : List ℕ
table = fresh_table

-- ---- "One that refuses all": no answer of it is 0, whatever it is handed
abbrev pub RefusesAll : (p : Promise) → Number p → Build p → Type 0
RefusesAll p refusal build = (κs : Lfts p.lifetimes) (a : Dens κs p.parameters) → refusal κs (build κs a) ≡ 0 → ⊥

abbrev pub NoneRefusesAll : (p : Promise) → Number p → Arguments p → Type 0
NoneRefusesAll p refusal at = (build : Build p) → RefusesAll p refusal build → BreaksAt p at build

-- one N-Char waits to be taken, from an end or from output 3
abbrev pub one_received : Link
one_received = with_rx fresh_link (record { front = 0; len = 1 })

abbrev pub one_routed : Router
one_routed = with_store fresh_router (output_store 3) (record { front = 0; len = 1 })

-- an end in Run, whose last sent N-Char was data
abbrev pub in_run : Link
in_run =
    with_marks (with_stage fresh_link (record { state = InRun; timer = 0; gotnull = true; nullsent = true }))
    (record { stored = false; sent = true; taken = false; put = true; discarding = false })

pub record RefusingAll : Type 0 where
  pub encode :
      NoneRefusesAll Encode (λ κs d. d.0) (λ κs. (lent (encoder_words fresh_encoder), (kind_of Null, (0, (out 2, tt)))))
  pub bit : NoneRefusesAll Bit (λ κs d. d.0) (λ κs. (lent (decoder_words Fresh), (0, (out 2, tt))))
  pub decoder_tick : NoneRefusesAll DecoderTick (λ κs d. d.0) (λ κs. (lent (decoder_words Fresh), (out 2, tt)))
  pub tick : NoneRefusesAll Tick (λ κs d. d.0) (λ κs. (link fresh_link, (lent rx, (shown tx, (out 1, tt)))))
  pub fault : NoneRefusesAll Fault (λ κs d. d.0) (λ κs. (link fresh_link, (lent rx, (shown tx, (7, (out 1, tt))))))
  pub control : NoneRefusesAll Control (λ κs d. d.0) (λ κs. (link fresh_link, (lent rx, (shown tx, (0, (1, (0, (out 1, tt))))))))
  pub reset : NoneRefusesAll Reset (λ κs d. d.0) (λ κs. (link fresh_link, (lent rx, (shown tx, (out 1, tt)))))
  pub send : NoneRefusesAll Send (λ κs d. d.0) (λ κs. (link fresh_link, (lent rx, (shown tx, (out 3, tt)))))
  pub receive :
      NoneRefusesAll Receive (λ κs d. d.0)
      (λ κs. (link fresh_link, (lent rx, (shown tx, (lent (time_words fresh_time), (kind_of Null, (0, (out 2, tt))))))))
  pub put : NoneRefusesAll Put (λ κs d. d.0) (λ κs. (link fresh_link, (lent tx, (65, (out 1, tt)))))
  pub take : NoneRefusesAll Take (λ κs d. d.0) (λ κs. (link one_received, (shown rx, (out 2, tt))))
  pub offer : NoneRefusesAll Offer (λ κs d. d.0) (λ κs. (link in_run, (5, (out 1, tt))))
  pub router_put : NoneRefusesAll RouterPut (λ κs d. d.0) (λ κs. (router fresh_router, (lent area, (1, (65, tt)))))
  pub router_take : NoneRefusesAll RouterTake (λ κs d. d.0) (λ κs. (router one_routed, (shown area, (3, (out 1, tt)))))
  pub router_run : NoneRefusesAll RouterRun (λ κs d. d.0) (λ κs. (router fresh_router, (lent area, (shown table, (1, (out 3, tt))))))
  pub router_write : NoneRefusesAll RouterWrite (λ κs d. d.0) (λ κs. (shown (router_words fresh_router), (lent table, (39, (4, tt)))))
  pub router_read : NoneRefusesAll RouterRead (λ κs d. d.0) (λ κs. (shown (router_words fresh_router), (shown table, (39, (out 1, tt)))))
  pub router_held : NoneRefusesAll RouterHeld (λ κs d. d.0) (λ κs. (shown (router_words fresh_router), (1, (out 11, tt))))

-- ---- "A decoder that always says NULL": whatever token it reports, 1 to 4 by number, it is NULL
abbrev pub SaysOnlyNull : Build Bit → Type 0
SaysOnlyNull build =
    (κs : Lfts 2) (a : Dens κs Bit.parameters) →
    let kind = word_at (build κs a).1.1.1.0.now 0 in 1 ≤ kind → kind ≤ 4 → kind ≡ kind_of Null

-- bit 14 of the listing's example: an FCT waits, the parity bit was 1, and this is the flag 0
abbrev pub bit14 : Arguments Bit
bit14 κs = (lent (decoder_words (Heard (Parity (Whole Fct) true) 0)), (0, (out 2, tt)))

-- ---- "An end that does nothing and stays in ErrorReset": no tick moves it from there
abbrev pub StaysInErrorReset : Build Tick → Type 0
StaysInErrorReset build =
    (κs : Lfts 4) (a : Dens κs Tick.parameters) →
    word_at a.0.now STATE ≡ 0 → word_at (build κs a).1.0.now STATE ≡ 0

-- the tick that finds the timer at 63
abbrev pub tick64 : Arguments Tick
tick64 κs = (
  link (with_stage fresh_link (record { state = ErrorReset; timer = 63; gotnull = false; nullsent = false })),
  (lent rx, (shown tx, (out 1, tt))),
)

-- ---- "A router right in round one and idle later": one round or more leave the words that one leaves
abbrev pub IdleLater : Build RouterRun → Type 0
IdleLater build =
    (κs : Lfts 4) (words area : MutBor (List ℕ)) (table : Bor (List ℕ)) (answer : MutBor (List ℕ)) (more : ℕ) →
    (build κs (words, (area, (table, (suc more, (answer, tt)))))).1.0.now
    ≡ (run_left words.now area.now table.now 1).state

-- a run of 10, as of the paper's two examples: input 1 holds 3, 65, EOP, and input 1 holds 11, EOP
abbrev pub run_of10 : List ℕ → Arguments RouterRun
run_of10 held κs = (
  router (holding smallest 1 held).router,
  (lent (holding smallest 1 held).area, (shown table, (10, (out 3, tt)))),
)

abbrev pub to_output3 : Arguments RouterRun
to_output3 = run_of10 (3 ∷ 65 ∷ EOP ∷ [])

abbrev pub to_nowhere : Arguments RouterRun
to_nowhere = run_of10 (11 ∷ EOP ∷ [])

-- ---- "Invented numbers of discarded, moved or run": another number than this one is answered to these arguments
abbrev pub Invents : (p : Promise) → Number p → Arguments p → ℕ → Build p → Type 0
Invents p number at counted build = (κs : Lfts p.lifetimes) → number κs (build κs (at κs)) ≡ counted → ⊥

abbrev pub NoneInvents : (p : Promise) → Number p → Arguments p → ℕ → Type 0
NoneInvents p number at counted = (build : Build p) → Invents p number at counted build → BreaksAt p at build

abbrev pub waiting_to_send : ℕ → Link → Link
waiting_to_send count l = with_tx l (record { front = 0; len = count })

-- the rest of a packet is being discarded
abbrev pub discarding : Link
discarding = with_marks fresh_link (record { stored = false; sent = false; taken = false; put = true; discarding = true })

abbrev pub put_while_discarding : Arguments Put
put_while_discarding κs = (link discarding, (lent tx, (65, (out 1, tt))))

pub record Inventing : Type 0 where
  -- discarded: an N-Char put to an end that discards; all that a reset finds; what a fault finds through the first end
  pub put : NoneInvents Put (λ κs d. word_at d.1.1.1.1.0.now 0) put_while_discarding 1
  pub reset :
      NoneInvents Reset (λ κs d. word_at d.1.1.1.1.0.now 0)
      (λ κs. (link (waiting_to_send 3 fresh_link), (lent rx, (shown tx, (out 1, tt))))) 3
  pub fault :
      NoneInvents Fault (λ κs d. word_at d.1.1.1.1.1.0.now 0)
      (λ κs. (link (waiting_to_send 3 in_run), (lent rx, (shown tx, (7, (out 1, tt)))))) 2
  pub rounds : NoneInvents RouterRun (λ κs d. word_at d.1.1.1.1.1.0.now 0) to_output3 3
  pub moved : NoneInvents RouterRun (λ κs d. word_at d.1.1.1.1.1.0.now 1) to_output3 2
  pub errors : NoneInvents RouterRun (λ κs d. word_at d.1.1.1.1.1.0.now 2) to_nowhere 1

-- every build of the five kinds breaks a promise
pub record WorthlessBuildsShutOut : Type 0 where
  pub refusing_all : RefusingAll
  pub saying_null : (build : Build Bit) → SaysOnlyNull build → BreaksAt Bit bit14 build
  pub staying : (build : Build Tick) → StaysInErrorReset build → BreaksAt Tick tick64 build
  pub idle_later : (build : Build RouterRun) → IdleLater build → BreaksAt RouterRun to_output3 build
  pub inventing : Inventing

-- ---- a build of each kind, so that none of the five is empty

abbrev pub refuser : Build Bit
refuser κs a = (1, (a.0, (a.1.0, (a.1.1.0, tt))))

-- the number of NULL for that of any token
abbrev pub null_for : ℕ → ℕ
null_for kind = pick (leb kind 4) (pick (eqb kind 0) 0 (kind_of Null)) kind

abbrev pub null_sayer : Build Bit
null_sayer κs a = told (bit_left a.0.now a.1.0)
  where
    told : Left → Done Bit κs
    told left = (
      left.refusal,
      (lent left.state, (a.1.0, (lent (null_for (word_at left.out 0) ∷ 0 ∷ []), tt))),
    )

abbrev pub sleeper : Build Tick
sleeper κs a = (0, (a.0, (a.1.0, (a.1.1.0, (lent (0 ∷ []), tt)))))

abbrev pub one_rounder : Build RouterRun
one_rounder κs a = told (run_left a.0.now a.1.0.now a.1.1.0.now 1)
  where
    told : RouterLeft → Done RouterRun κs
    told left = (
      left.refusal,
      (lent left.state, (lent left.area, (a.1.1.0, (a.1.1.1.0, (lent left.out, tt))))),
    )

abbrev pub undercounter : Build Put
undercounter κs a = told (put_left a.0.now a.1.0.now a.1.1.0)
  where
    told : LinkLeft → Done Put κs
    told left = (left.refusal, (lent left.state, (lent left.places, (a.1.1.0, (lent (0 ∷ []), tt)))))

pub record WorthlessBuilds : Type 0 where
  pub refuses_all : RefusesAll Bit (λ κs d. d.0) refuser
  pub says_null : SaysOnlyNull null_sayer
  pub stays : StaysInErrorReset sleeper
  pub idles_later : IdleLater one_rounder
  pub invents : Invents Put (λ κs d. word_at d.1.1.1.1.0.now 0) put_while_discarding 1 undercounter
