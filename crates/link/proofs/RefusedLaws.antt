-- What a call that is not refused knows: its words are those of the end that they mean, whose record passed, and the
-- stores that it is lent are small enough. And what the tests of words come to: where these are an end's, the tests of
-- that end.
-- Assumes nothing.
use Prim.Native.Nat.{ℕ, ◌≤◌, ◌<◌}
use mathlib.Core.Path.{◌≡◌, refl}
use mathlib.Core.Bool.{Bool, true, false, not, ◌||◌, ◌&&◌, and-eq-true_iff}
use mathlib.Core.List.{List, [], ◌∷◌}
use native.Mathlib.Omega.{arith}
use lib.ListN.{drop}
use lib.Dec.{eqb, ltb}
use borrow.Author.Tests.{ltb-false, eqb-true, eqb-false}
use Rattle.vocabulary.specs.Choice.{pick}
use Rattle.vocabulary.specs.Refusals.{STATE, STORE, CHAR, number, Test, test, first_of}
use Rattle.vocabulary.specs.Tokens.{bad_char}
use Rattle.vocabulary.specs.declared.Token.{Token}
use Rattle.vocabulary.proofs.RefusalLaws.{passed, passed_later}
use Rattle.words.specs.Words.{word_at}
use Rattle.store.specs.Ring.{bad_store}
use Rattle.store.proofs.OrLaws.{or_left, or_right}
use Rattle.time.specs.Time.{bad_time}
use Rattle.link.specs.Refusals.{bad_record, bad_rx_size, bad_tx_size, bad_receive, both_tests, both_refusal, receive_tests}
use Rattle.link.specs.Refusals.{receive_refusal, put_tests, put_refusal, take_tests, take_refusal, offer_tests}
use Rattle.link.specs.Refusals.{offer_refusal}
use Rattle.link.specs.LinkWords.{TIMER, link_words, link_of, stage_in, is_link, time_of, is_time}
use Rattle.link.specs.LinkCalls.{both_refused, no_fault, fault_refused, receive_refused, put_refused, take_refused}
use Rattle.link.specs.LinkCalls.{offer_refused}
use Rattle.link.specs.InPlace.{Good}
use Rattle.link.proofs.RecordLaws.{timer_small}
use Rattle.link.proofs.LinkLaws.{own_words, offer_fits}

-- the words of an end, and what its own tests say of it
pub record Accepted (words : List ℕ) (refusal : ℕ) : Type 0 where
  pub is_link_lem : is_link words ≡ true
  pub own : words ≡ link_words (link_of words)
  pub good : Good (link_of words)
  pub timer : word_at words TIMER < 255
  pub passes : refusal ≡ 0

timer_word : (words : List ℕ) → bad_record (link_of words) ≡ false → word_at words TIMER < 255
unfolding link_of stage_in
timer_word words good = omega (arith, timer_small (link_of words) good)

accepted : (words : List ℕ) (refusal : ℕ) → is_link words ≡ true → refusal ≡ 0 → bad_record (link_of words) ≡ false →
    Accepted words refusal
accepted words refusal link passes good =
    let own = own_words words link in
    record {
      is_link_lem = link;
      own = own;
      good = (good, offer_fits words);
      timer = timer_word words good;
      passes = passes;
    }

-- a choice between a call's own tests and STATE that comes to no refusal
own_tests : (b : Bool) (n : ℕ) → pick b n (number STATE) ≡ 0 → (b ≡ true) × (n ≡ 0)
own_tests true n e = (refl, e)
own_tests false n e = absurd (omega arith)

-- the record is what every call tests first
record_first : (words : List ℕ) (later : List Test) →
    pick (is_link words) (first_of (test STATE (bad_record (link_of words)) ∷ later)) (number STATE) ≡ 0 →
    Accepted words (first_of (test STATE (bad_record (link_of words)) ∷ later)) × (first_of later ≡ 0)
record_first words later e =
    let (link, passes) = own_tests (is_link words) _ e in (
      accepted words _ link passes (passed STATE (bad_record (link_of words)) later passes),
      passed_later STATE (bad_record (link_of words)) later passes,
    )

rx_most : (rx : ℕ) → bad_rx_size rx ≡ false → rx ≤ 4096
rx_most rx e = ltb-false 4096 rx (or_right (ltb rx 9) _ e)

tx_most : (tx : ℕ) → bad_tx_size tx ≡ false → tx ≤ 4096
tx_most tx e = ltb-false 4096 tx (or_right (ltb tx 1) _ e)

both_most : (rx tx : ℕ) (later : List Test) → first_of (test STORE (bad_rx_size rx || bad_tx_size tx) ∷ later) ≡ 0 →
    (rx ≤ 4096) × (tx ≤ 4096)
both_most rx tx later e =
    let sizes = passed STORE (bad_rx_size rx || bad_tx_size tx) later e in
    (rx_most rx (or_left _ (bad_tx_size tx) sizes), tx_most tx (or_right (bad_rx_size rx) _ sizes))

pub both : (words : List ℕ) (rx tx : ℕ) → both_refused words rx tx ≡ 0 →
    Accepted words (both_refusal rx tx (link_of words)) × (rx ≤ 4096) × (tx ≤ 4096)
both words rx tx e =
    let (accepted, later) = record_first words (drop 1 (both_tests rx tx (link_of words))) e in
    let (rx_small, tx_small) = both_most rx tx (drop 2 (both_tests rx tx (link_of words))) later in
    (accepted, rx_small, tx_small)

pub fault : (words : List ℕ) (rx tx kind : ℕ) → fault_refused words rx tx kind ≡ 0 →
    (both_refused words rx tx ≡ 0) × (no_fault kind ≡ false)
fault words rx tx kind = by (both_refused words rx tx) (eqb (both_refused words rx tx) 0) (no_fault kind) refl
  where
    by : (n : ℕ) (none bad : Bool) → eqb n 0 ≡ none → pick none (pick bad (number CHAR) 0) n ≡ 0 →
        (n ≡ 0) × (bad ≡ false)
    by n true true p e = absurd (omega arith)
    by n true false p e = (eqb-true n 0 p, refl)
    by n false bad p e = absurd (eqb-false n 0 p e)

pub receive : (words : List ℕ) (rx tx : ℕ) (time : List ℕ) (t : Token) → receive_refused words rx tx time t ≡ 0 →
    Accepted words (receive_refusal rx tx (link_of words) (time_of time) t)
    × (rx ≤ 4096)
    × (tx ≤ 4096)
    × (is_time time ≡ true)
    × (word_at time 0 < 256)
unfolding time_of
receive words rx tx time t e =
    let (are, passes) = own_tests (is_link words && is_time time) _ e in
    let (link, clock) = (and-eq-true_iff (is_link words) (is_time time)).0 are in
    let tests = receive_tests rx tx (link_of words) (time_of time) t in
    let bad : Bool = bad_record (link_of words) || bad_time (time_of time) in
    let records = passed STATE bad (drop 1 tests) passes in
    let (rx_small, tx_small) = both_most rx tx (drop 2 tests) (passed_later STATE bad (drop 1 tests) passes) in
    let count = ltb-false 63 (word_at time 0) (or_right (bad_record (link_of words)) _ records) in (
      accepted words _ link passes (or_left _ (bad_time (time_of time)) records),
      rx_small,
      tx_small,
      clock,
      omega (arith, count),
    )

pub put : (words : List ℕ) (tx n : ℕ) → put_refused words tx n ≡ 0 →
    Accepted words (put_refusal tx (link_of words) n) × (tx ≤ 4096)
put words tx n e =
    let (accepted, later) = record_first words (drop 1 (put_tests tx (link_of words) n)) e in
    (accepted, tx_most tx (passed STORE (bad_tx_size tx) (drop 2 (put_tests tx (link_of words) n)) later))

pub take : (words : List ℕ) (rx : ℕ) → take_refused words rx ≡ 0 →
    Accepted words (take_refusal rx (link_of words)) × (rx ≤ 4096)
take words rx e =
    let (accepted, later) = record_first words (drop 1 (take_tests rx (link_of words))) e in
    (accepted, rx_most rx (passed STORE (bad_rx_size rx) (drop 2 (take_tests rx (link_of words))) later))

pub offer : (words : List ℕ) → offer_refused words ≡ 0 → Accepted words (offer_refusal (link_of words))
offer words e = (record_first words (drop 1 (offer_tests (link_of words))) e).0

-- The time record is tested with the end's, and later tests stand behind those of every call.
pub in_order : (link clock own late size stores : Bool) (later : ℕ) →
    pick (not clock || late) (number STATE)
    (pick (eqb (pick link (first_of (test STATE own ∷ test STORE size ∷ test STATE stores ∷ [])) (number STATE)) 0) later
    (pick link (first_of (test STATE own ∷ test STORE size ∷ test STATE stores ∷ [])) (number STATE)))
    ≡ pick (link && clock)
    (pick (own || late) (number STATE) (pick size (number STORE) (pick stores (number STATE) later)))
    (number STATE)
in_order true false own late size stores later = refl
in_order false false own late size stores later = refl
in_order true true true true size stores later = refl
in_order true true false true size stores later = refl
in_order false true own true size stores later = refl
in_order false true own false size stores later = refl
in_order true true true false size stores later = refl
in_order true true false false true stores later = refl
in_order true true false false false true later = refl
in_order true true false false false false later = refl

pub with_time : (words : List ℕ) (rx tx : ℕ) (time : List ℕ) (t : Token) →
    pick (not (is_time time) || bad_time (time_of time)) (number STATE)
    (pick (eqb (both_refused words rx tx) 0) (pick (bad_char t) (number CHAR) 0) (both_refused words rx tx))
    ≡ receive_refused words rx tx time t
with_time words rx tx time t =
    in_order (is_link words) (is_time time) (bad_record (link_of words)) (bad_time (time_of time))
    (bad_rx_size rx || bad_tx_size tx) (bad_receive rx (link_of words) || bad_store tx (link_of words).tx)
    (pick (bad_char t) (number CHAR) 0)
