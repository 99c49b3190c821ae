-- 01, The ten refusals, as far as they concern a link end: what each call tests, in the paper's order. "A call tests what it is
-- lent": put the record and the transmit store, take the record and the receive store, a Time-Code offer the record, the others
-- the record and both stores, and a received token the time record too.
-- Assumes nothing.
use Rattle.std.specs.Prelude.{ℕ, ◌+◌, Bool, not, ◌||◌, ◌&&◌, List, [], ◌∷◌, leb, ltb, eqb}
use Rattle.vocabulary.specs.Refusals.{STATE, STORE, CHAR, NOTRUN, EMPTY, FULL, Test, test, first_of}
use Rattle.vocabulary.specs.NChars.{above_eep}
use Rattle.vocabulary.specs.Tokens.{bad_char}
use Rattle.vocabulary.specs.declared.Token.{Token}
use Rattle.store.specs.Ring.{bad_store, free, empty, full}
use Rattle.time.specs.Time.{bad_time}
use Rattle.time.specs.declared.Time.{Time}
use Rattle.link.specs.Moves.{is_state, limit_of}
use Rattle.link.specs.declared.LinkState.{LinkState}
use Rattle.link.specs.declared.LinkState.TheVariants.{Connecting, Run}
use Rattle.link.specs.Records.{Link}

-- "either credit above 56; credit held outside Run, given out outside Connecting and Run"
abbrev pub bad_held : LinkState → ℕ → Bool
bad_held s held = ltb 56 held || not (is_state s Run) && not (eqb held 0)

abbrev pub bad_given : LinkState → ℕ → Bool
bad_given s given = ltb 56 given || not (is_state s Connecting || is_state s Run) && not (eqb given 0)

-- "timer at or past its state's limit (not 0 in Ready, Run)"
abbrev pub bad_timer : LinkState → ℕ → Bool
bad_timer s timer = leb (limit_of s) timer

-- the tests of STATE that need no store's size
abbrev pub bad_record : Link → Bool
bad_record l =
    bad_held l.stage.state l.credit.held.0
    || bad_given l.stage.state l.credit.given.0
    || bad_timer l.stage.state l.stage.timer

-- "receive store not 9 to 4,096 places, transmit not 1 to 4,096"
abbrev pub bad_rx_size : ℕ → Bool
bad_rx_size size = ltb size 9 || ltb 4096 size

abbrev pub bad_tx_size : ℕ → Bool
bad_tx_size size = ltb size 1 || ltb 4096 size

-- "given out above 0 or last stored N-Char data with too few free places (given out + 1 needed)"
abbrev pub lacks_room : ℕ → Link → Bool
lacks_room size l =
    (not (eqb l.credit.given.0 0) || l.marks.stored) && ltb (free size l.rx) (l.credit.given.0 + 1)

-- the tests of STATE that need the receive store's size
abbrev pub bad_receive : ℕ → Link → Bool
bad_receive size l = bad_store size l.rx || lacks_room size l

-- tick, fault, control change, send, reset
abbrev pub both_tests : ℕ → ℕ → Link → List Test
both_tests rx tx l =
    test STATE (bad_record l)
    ∷ test STORE (bad_rx_size rx || bad_tx_size tx)
    ∷ test STATE (bad_receive rx l || bad_store tx l.tx)
    ∷ []

abbrev pub both_refusal : ℕ → ℕ → Link → ℕ
both_refusal rx tx l = first_of (both_tests rx tx l)

-- a received token
abbrev pub receive_tests : ℕ → ℕ → Link → Time → Token → List Test
receive_tests rx tx l time t =
    test STATE (bad_record l || bad_time time)
    ∷ test STORE (bad_rx_size rx || bad_tx_size tx)
    ∷ test STATE (bad_receive rx l || bad_store tx l.tx)
    ∷ test CHAR (bad_char t)
    ∷ []

abbrev pub receive_refusal : ℕ → ℕ → Link → Time → Token → ℕ
receive_refusal rx tx l time t = first_of (receive_tests rx tx l time t)

-- "10 FULL: put to a full store that isn't discarding"
abbrev pub put_tests : ℕ → Link → ℕ → List Test
put_tests tx l n =
    test STATE (bad_record l)
    ∷ test STORE (bad_tx_size tx)
    ∷ test STATE (bad_store tx l.tx)
    ∷ test CHAR (above_eep n)
    ∷ test FULL (not l.marks.discarding && full tx l.tx)
    ∷ []

abbrev pub put_refusal : ℕ → Link → ℕ → ℕ
put_refusal tx l n = first_of (put_tests tx l n)

-- "9 EMPTY: take from an empty store"
abbrev pub take_tests : ℕ → Link → List Test
take_tests rx l =
    test STATE (bad_record l)
    ∷ test STORE (bad_rx_size rx)
    ∷ test STATE (bad_receive rx l)
    ∷ test EMPTY (empty l.rx)
    ∷ []

abbrev pub take_refusal : ℕ → Link → ℕ
take_refusal rx l = first_of (take_tests rx l)

-- "8 NOTRUN: Time-Code offered outside Run"
abbrev pub offer_tests : Link → List Test
offer_tests l =
    test STATE (bad_record l) ∷ test NOTRUN (not (is_state l.stage.state Run)) ∷ []

abbrev pub offer_refusal : Link → ℕ
offer_refusal l = first_of (offer_tests l)
