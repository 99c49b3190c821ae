-- What the calls' definitions come to at the arguments that `Worthless` names: from C and from Rust the same is promised there.
-- Assumes nothing.
use Rattle.std.specs.Prelude.{◌≡◌, refl, ℕ, List, [], ◌∷◌, Some}
use Rattle.vocabulary.specs.NChars.{EOP}
use Rattle.vocabulary.specs.declared.Token.TheVariants.{Null, Fct}
use Rattle.vocabulary.specs.Tokens.{kind_of}
use Rattle.words.specs.Words.{word_at}
use Rattle.characters.specs.States.{Fresh}
use Rattle.characters.specs.DecoderWords.{decoder_words}
use Rattle.characters.specs.EncoderWords.{encoder_words}
use Rattle.link.specs.LinkWords.{STATE, time_words}
use Rattle.link.specs.LinkCalls.{controls_of}
use Rattle.router.specs.RouterCalls.{RouterLeft, row_refused}
use Rattle.router.specs.Cases.{smallest, holding}
use Rattle.promises.specs.WorthlessCalls.{bit14 as call_bit14, tick64 as call_tick64}
use Rattle.promises.specs.Worthless.{bit14, tick64}
use Rattle.characters.specs.Reports.{report_words}
use Rattle.characters.specs.declared.reports.Report.TheVariants.{Got}
use contract.Lifetimes.{Lfts}
use Rattle.promises.specs.Worthless.{rx, tx, area, table, one_received, one_routed, in_run, waiting_to_send, discarding}
use Rattle.words.specs.Arguments.{token_of}
use Rattle.words.specs.Words.{same}
use Rattle.store.specs.Changes.{fresh_store, put_store, put_places, dropped, found_in, found}
use Rattle.store.specs.Packets.{through_end}
use Rattle.store.specs.Ring.{standing}
use Rattle.store.specs.StoreWords.{store_of}
use Rattle.time.specs.Time.{fresh_time}
use Rattle.characters.specs.Calls.{encode_answer, decode_accepted, bit_answer, tick_answer}
use Rattle.characters.specs.Decoder.{goes_on, flagged}
use Rattle.characters.specs.DecoderWords.{waiting_of, decoder_from, decoder_of, decoded}
use Rattle.characters.specs.DecoderWords.{bit_left, tick_left as decoder_tick_left}
use Rattle.characters.specs.Encoder.{fresh_encoder, sent}
use Rattle.characters.specs.EncoderWords.{encoder_of, encoded, encode_left}
use Rattle.link.specs.Calls.{answered, accepted as end_accepted, tick_outcome, fault_outcome, control_outcome}
use Rattle.link.specs.Calls.{reset_outcome, dispatch_of, dispatched, send_outcome, receipt_of, received}
use Rattle.link.specs.Calls.{token_accepted, receive_outcome, put_answer, take_accepted}
use Rattle.link.specs.Calls.{take_answer, offer_accepted, offer_answer}
use Rattle.link.specs.Ends.{fresh_link}
use Rattle.link.specs.Hosts.{puts}
use Rattle.link.specs.LinkCalls.{end_of, answer_left, tick_left, reset_left, numbered_fault, fault_left}
use Rattle.link.specs.LinkCalls.{control_left, dispatch_left, send_left, receipt_left}
use Rattle.link.specs.LinkCalls.{receive_left, put_done, put_left, taken, take_left, offered, offer_left}
use Rattle.link.specs.LinkWords.{link_words, stage_in, controls_in, credit_in, marks_in, link_of, time_of}
use Rattle.link.specs.Received.{counted}
use Rattle.link.specs.Recovery.{closed_link, rest_discarded, goes_down, moves_to}
use Rattle.link.specs.Recovery.{settles}
use Rattle.link.specs.Reset.{resets}
use Rattle.router_table.specs.Headings.{to_port, address_heading, heading}
use Rattle.router_ports.specs.Each.{each, any}
use Rattle.router_ports.specs.Places.{without_front, with_behind}
use Rattle.router_ports.specs.Ports.{fresh_router, with_mode, with_output, with_store}
use Rattle.router_ports.specs.Refusals.{bad_ports, bad_stores}
use Rattle.router_ports.specs.RouterWords.{listed, router_words, mode_of, input_in, output_in, router_of}
use Rattle.router_rounds.specs.Acts.{changed_to, count_moved, count_error, count_round}
use Rattle.router_rounds.specs.Addresses.{waits, reads, addresses, part1}
use Rattle.router_rounds.specs.Grants.{cyclic, candidates, first_that, granted, grants, part2}
use Rattle.router_rounds.specs.Moves.{frees, carries, moves, moves_one, spills, spills_one, sends, part3}
use Rattle.router_rounds.specs.Rounds.{begun, round, rounds}
use Rattle.router.specs.Calls.{puts as router_puts, took_one, takes as router_takes, told, runs, reads_row}
use Rattle.router.specs.Held.{held_through, still_held}
use Rattle.router.specs.HeldCalls.{asked, held_left}
use Rattle.router.specs.RouterCalls.{put as puts_router, put_left as router_put_left, took}
use Rattle.router.specs.RouterCalls.{take_left as router_take_left, ran, run_left, row_left}

-- none of these calls is refused
pub record Accepted : Type 0 where
  pub encode : (encode_left (encoder_words fresh_encoder) (kind_of Null) 0).refusal ≡ 0
  pub bit : (bit_left (decoder_words Fresh) 0).refusal ≡ 0
  pub decoder_tick : (decoder_tick_left (decoder_words Fresh)).refusal ≡ 0
  pub tick : (tick_left (link_words fresh_link) rx tx).refusal ≡ 0
  pub fault : (fault_left (link_words fresh_link) rx tx 7).refusal ≡ 0
  pub control : (control_left (link_words fresh_link) rx tx (controls_of 0 1 0)).refusal ≡ 0
  pub reset : (reset_left (link_words fresh_link) rx tx).refusal ≡ 0
  pub send : (send_left (link_words fresh_link) rx tx).refusal ≡ 0
  pub receive : (receive_left (link_words fresh_link) rx tx (time_words fresh_time) (kind_of Null) 0).refusal ≡ 0
  pub put : (put_left (link_words fresh_link) tx 65).refusal ≡ 0
  pub take : (take_left (link_words one_received) rx).refusal ≡ 0
  pub offer : (offer_left (link_words in_run) 5).refusal ≡ 0
  pub router_put : (router_put_left (router_words fresh_router) area 1 65).refusal ≡ 0
  pub router_take : (router_take_left (router_words one_routed) area 3).refusal ≡ 0
  pub router_run : (run_left (router_words fresh_router) area table 1).refusal ≡ 0
  pub router_write : row_refused (router_words fresh_router) 39 ≡ 0
  pub router_read : (row_left (router_words fresh_router) table 39).refusal ≡ 0
  pub router_held : (held_left (router_words fresh_router) 1).refusal ≡ 0

-- a run of so many rounds at most, with these N-Chars in input 1
abbrev pub run_with : List ℕ → ℕ → RouterLeft
run_with held limit = run_left (router_words (holding smallest 1 held).router) (holding smallest 1 held).area table limit

-- what is reported, left or counted, where a build says NULL, stays, is idle later or invents
pub record Told : Type 0 where
  pub reported : (κs : Lfts 2) → word_at (bit_left (bit14 κs).0.now (bit14 κs).1.0).out 0 ≡ kind_of Fct
  pub in_reset : (κs : Lfts 4) → word_at (tick64 κs).0.now STATE ≡ 0
  pub out_of_reset : (κs : Lfts 4) → word_at (tick_left (tick64 κs).0.now rx tx).state STATE ≡ 1
  pub call_reported : (κs : Lfts 1) → (bit_left (call_bit14 κs).0.now (call_bit14 κs).1.0).out ≡ report_words (Some (Got Fct))
  pub call_in_reset : (κs : Lfts 3) → word_at (call_tick64 κs).0.now STATE ≡ 0
  pub call_out_of_reset : (κs : Lfts 3) → word_at (tick_left (call_tick64 κs).0.now rx tx).state STATE ≡ 1
  pub put : word_at (put_left (link_words discarding) tx 65).out 0 ≡ 1
  pub reset : word_at (reset_left (link_words (waiting_to_send 3 fresh_link)) rx tx).out 0 ≡ 3
  pub fault : word_at (fault_left (link_words (waiting_to_send 3 in_run)) rx tx 7).out 0 ≡ 2
  pub rounds : word_at (run_with (3 ∷ 65 ∷ EOP ∷ []) 10).out 0 ≡ 3
  pub moved : word_at (run_with (3 ∷ 65 ∷ EOP ∷ []) 10).out 1 ≡ 2
  pub errors : word_at (run_with (11 ∷ EOP ∷ []) 10).out 2 ≡ 1
  -- word 3 of a router, behind one round and behind ten
  pub one_round : word_at (run_with (3 ∷ 65 ∷ EOP ∷ []) 1).state 3 ≡ 2
  pub ten_rounds : word_at (run_with (3 ∷ 65 ∷ EOP ∷ []) 10).state 3 ≡ 0

pub record ComeTo : Type 0 where
  pub accepted : Accepted
  pub told : Told

pub come_to : ComeTo
unfolding token_of same fresh_store put_store put_places dropped found_in found through_end standing store_of fresh_time encode_answer decode_accepted bit_answer tick_answer goes_on flagged waiting_of decoder_from decoder_of decoded bit_left decoder_tick_left fresh_encoder sent encoder_of encoded encode_left answered end_accepted tick_outcome fault_outcome control_outcome reset_outcome dispatch_of dispatched send_outcome receipt_of received token_accepted receive_outcome put_answer take_accepted take_answer offer_accepted offer_answer fresh_link puts end_of answer_left tick_left reset_left numbered_fault fault_left control_left dispatch_left send_left receipt_left receive_left put_done put_left taken take_left offered offer_left link_words stage_in controls_in credit_in marks_in link_of time_of counted closed_link rest_discarded goes_down moves_to settles resets to_port address_heading heading each any without_front with_behind fresh_router with_mode with_output with_store bad_ports bad_stores listed router_words mode_of input_in output_in router_of changed_to count_moved count_error count_round waits reads addresses part1 cyclic candidates first_that granted grants part2 frees carries moves moves_one spills spills_one sends part3 begun round rounds router_puts took_one router_takes told runs reads_row held_through still_held asked held_left puts_router router_put_left took router_take_left ran run_left row_left
come_to =
    record {
      accepted = record {
        encode = refl;
        bit = refl;
        decoder_tick = refl;
        tick = refl;
        fault = refl;
        control = refl;
        reset = refl;
        send = refl;
        receive = refl;
        put = refl;
        take = refl;
        offer = refl;
        router_put = refl;
        router_take = refl;
        router_run = refl;
        router_write = refl;
        router_read = refl;
        router_held = refl;
      };
      told = record {
        reported = λ κs. refl;
        in_reset = λ κs. refl;
        out_of_reset = λ κs. refl;
        call_reported = λ κs. refl;
        call_in_reset = λ κs. refl;
        call_out_of_reset = λ κs. refl;
        put = refl;
        reset = refl;
        fault = refl;
        rounds = refl;
        moved = refl;
        errors = refl;
        one_round = refl;
        ten_rounds = refl;
      };
    }
