-- The words of a link end, and those of a time record: where each field stands, what the words of a record are, and what
-- words mean.
-- Assumes nothing.
use Rattle.std.specs.Prelude.{ℕ, ◌<◌, ◌≡◌, Bool, true, List, [], ◌∷◌, ◌++◌, eqb, Option, None, Some}
use Rattle.vocabulary.specs.Choice.{pick}
use Rattle.words.specs.Words.{word_at, truth_word, truth, byte, same}
use Rattle.store.specs.StoreWords.{store_fields, store_of}
use Rattle.time.specs.declared.Time.{Time}
use Rattle.link.specs.Records.{Stage, Controls, Credit, Marks, Link}
use Rattle.link.specs.Send.{offer_number, offer_value}
use Rattle.link.specs.Moves.{state_number}
use Rattle.link.specs.Table.{state_of}

-- where each field stands: the stage, the controls, the credit, the marks, the waiting Time-Code, the two stores
abbrev pub STATE : ℕ
STATE = 0

abbrev pub TIMER : ℕ
TIMER = 1

abbrev pub GOT_NULL : ℕ
GOT_NULL = 2

abbrev pub NULL_SENT : ℕ
NULL_SENT = 3

abbrev pub DISABLED : ℕ
DISABLED = 4

abbrev pub START : ℕ
START = 5

abbrev pub AUTO : ℕ
AUTO = 6

abbrev pub HELD : ℕ
HELD = 7

abbrev pub GIVEN_OUT : ℕ
GIVEN_OUT = 8

abbrev pub STORED : ℕ
STORED = 9

abbrev pub SENT : ℕ
SENT = 10

abbrev pub TAKEN : ℕ
TAKEN = 11

abbrev pub PUT : ℕ
PUT = 12

abbrev pub DISCARDING : ℕ
DISCARDING = 13

abbrev pub OFFERED : ℕ
OFFERED = 14

abbrev pub CODE : ℕ
CODE = 15

abbrev pub RX : ℕ
RX = 16

abbrev pub RX_LEN : ℕ
RX_LEN = 17

abbrev pub TX : ℕ
TX = 18

abbrev pub TX_LEN : ℕ
TX_LEN = 19

-- the words of an end
abbrev pub stage_words : Stage → List ℕ
stage_words s = state_number s.state ∷ s.timer ∷ truth_word s.gotnull ∷ truth_word s.nullsent ∷ []

abbrev pub controls_words : Controls → List ℕ
controls_words c = truth_word c.disabled ∷ truth_word c.start ∷ truth_word c.auto ∷ []

abbrev pub credit_words : Credit → List ℕ
credit_words c = c.held.0 ∷ c.given.0 ∷ []

abbrev pub marks_words : Marks → List ℕ
marks_words m =
    truth_word m.stored
    ∷ truth_word m.sent
    ∷ truth_word m.taken
    ∷ truth_word m.put
    ∷ truth_word m.discarding
    ∷ []

abbrev pub offer_words : Option ℕ → List ℕ
offer_words o = offer_number o ∷ offer_value o ∷ []

unfoldable pub link_words : Link → List ℕ
link_words l =
    stage_words l.stage
    ++ controls_words l.controls
    ++ credit_words l.credit
    ++ marks_words l.marks
    ++ offer_words l.offer
    ++ store_fields l.rx
    ++ store_fields l.tx

abbrev pub time_words : Time → List ℕ
time_words t = t.count ∷ truth_word t.ticked ∷ []

-- The end that words mean. A number that no state or truth has means another, which has other words.
unfoldable pub stage_in : List ℕ → Stage
stage_in words =
    record {
      state = state_of (word_at words STATE);
      timer = word_at words TIMER;
      gotnull = truth (word_at words GOT_NULL);
      nullsent = truth (word_at words NULL_SENT);
    }

unfoldable pub controls_in : List ℕ → Controls
controls_in words =
    record {
      disabled = truth (word_at words DISABLED);
      start = truth (word_at words START);
      auto = truth (word_at words AUTO);
    }

unfoldable pub credit_in : List ℕ → Credit
credit_in words =
    record { held = record { 0 = word_at words HELD }; given = record { 0 = word_at words GIVEN_OUT } }

unfoldable pub marks_in : List ℕ → Marks
marks_in words =
    record {
      stored = truth (word_at words STORED);
      sent = truth (word_at words SENT);
      taken = truth (word_at words TAKEN);
      put = truth (word_at words PUT);
      discarding = truth (word_at words DISCARDING);
    }

abbrev pub offer_of : ℕ → ℕ → Option ℕ
offer_of n code = pick (eqb n 0) None (Some (byte code))

unfoldable pub link_of : List ℕ → Link
link_of words =
    record {
      stage = stage_in words;
      controls = controls_in words;
      credit = credit_in words;
      marks = marks_in words;
      offer = offer_of (word_at words OFFERED) (word_at words CODE);
      rx = store_of (word_at words RX) (word_at words RX_LEN);
      tx = store_of (word_at words TX) (word_at words TX_LEN);
    }

unfoldable pub time_of : List ℕ → Time
time_of words = record { count = word_at words 0; ticked = truth (word_at words 1) }

-- words that are those of the end, or of the time record, that they mean
abbrev pub is_link : List ℕ → Bool
is_link words = same words (link_words (link_of words))

abbrev pub is_time : List ℕ → Bool
is_time words = same words (time_words (time_of words))

-- a Time-Code has eight bits
abbrev pub FitsOffer : Option ℕ → Type 0
FitsOffer None = Unit {0}
FitsOffer (Some v) = v < 256

-- the words of an end, and of a time record, mean it
pub record KeepsLinks : Type 0 where
  pub link : (l : Link) → FitsOffer l.offer → link_of (link_words l) ≡ l
  pub is_link_lem : (l : Link) → FitsOffer l.offer → is_link (link_words l) ≡ true
  pub time : (t : Time) → time_of (time_words t) ≡ t
  pub is_time_lem : (t : Time) → is_time (time_words t) ≡ true
