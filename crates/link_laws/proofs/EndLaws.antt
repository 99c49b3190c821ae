-- What STATE and STORE test, in the form in which the calls' laws use it: of an end that passes, and of an end between
-- an event's effect and its move.
-- Assumes nothing.
use mathlib.Core.Path.{◌≡◌, refl, sym}
use mathlib.Core.Bool.{Bool, true, false, not, ◌||◌, ◌&&◌, true≢false}
use Prim.Native.Nat.{ℕ, ◌+◌, ◌≤◌, ◌<◌}
use native.Mathlib.Omega.{arith}
use lib.Dec.{eqb, ltb}
use lib.ListN.{length, get_or}
use borrow.Author.Tests.{ltb-false, eqb-true, eqb-false, not-false, le-ltb, lt-leb, eq-eqb}
use Rattle.vocabulary.specs.Refusals.{STATE, test}
use Rattle.store.specs.Ring.{bad_store, free}
use Rattle.store.specs.declared.Store.{Store}
use Rattle.store.proofs.OrLaws.{or_left, or_right}
use Rattle.link.specs.Ends.{End}
use Rattle.link.specs.Moves.{is_state, event_number, limit_of, counts_ticks}
use Rattle.link.specs.Refusals.{bad_record, bad_rx_size, bad_tx_size, lacks_room, bad_receive, both_tests}
use Rattle.link.specs.Calls.{both}
use Rattle.link.proofs.RecordLaws.{held_good, given_good, timer_below, held_small, given_small}
use Rattle.link.specs.declared.LinkState.{LinkState}
use Rattle.link.specs.declared.LinkState.TheVariants.{ErrorReset, Connecting, Run}
use Rattle.link.specs.declared.Event.{Event}
use Rattle.link.specs.declared.Event.TheVariants.{GotFct}
use Rattle.link_laws.proofs.TestLaws.{passed_test}

-- where credit may be given out
abbrev pub is_late : LinkState → Bool
is_late s = is_state s Connecting || is_state s Run

-- At every moment: the sizes, the stores, the bounds of credit, and room for what is given out and for an EEP.
pub record Sound (rx tx : ℕ) (state : LinkState) (held given : ℕ) (stored : Bool) (r t : Store) : Type 0 where
  pub rx_size : bad_rx_size rx ≡ false
  pub tx_size : bad_tx_size tx ≡ false
  pub rx_good : bad_store rx r ≡ false
  pub tx_good : bad_store tx t ≡ false
  pub held_most : held ≤ 56
  pub given_most : given ≤ 56
  pub given_where : is_late state ≡ false → given ≡ 0
  pub given_room : (given ≡ 0 → ⊥) → given + 1 ≤ free rx r
  pub stored_room : stored ≡ true → given + 1 ≤ free rx r

-- of an end that passes
pub record AtRest (rx tx : ℕ) (state : LinkState) (timer held given : ℕ) (stored : Bool) (r t : Store) : Type 0 where
  pub sound : Sound rx tx state held given stored r t
  pub held_where : is_state state Run ≡ false → held ≡ 0
  pub timer_below : timer < limit_of state

-- Between an effect and its move credit may be held in Connecting, where an FCT came, and a timer that counts may be at
-- its limit.
abbrev pub may_hold : LinkState → Event → Bool
may_hold s event = is_state s Run || is_state s Connecting && eqb (event_number event) (event_number GotFct)

pub record InBetween (event : Event) (rx tx : ℕ) (state : LinkState) (timer held given : ℕ) (stored : Bool) (r t : Store)
    : Type 0 where
  pub sound : Sound rx tx state held given stored r t
  pub held_where : may_hold state event ≡ false → held ≡ 0
  pub timer_below : counts_ticks state ≡ false → timer < limit_of state

abbrev pub Good : End → Type 0
Good e =
    AtRest (length e.rx) (length e.tx) e.link.stage.state e.link.stage.timer
    e.link.credit.held.0 e.link.credit.given.0 e.link.marks.stored e.link.rx e.link.tx

abbrev pub Between : Event → End → Type 0
Between event e =
    InBetween event (length e.rx) (length e.tx) e.link.stage.state e.link.stage.timer
    e.link.credit.held.0 e.link.credit.given.0 e.link.marks.stored e.link.rx e.link.tx

-- an effect that changes nothing of this
pub still_between : {rx tx : ℕ} {state : LinkState} {timer held given : ℕ} {stored : Bool} {r t : Store} (event : Event) →
    AtRest rx tx state timer held given stored r t → InBetween event rx tx state timer held given stored r t
still_between {state = state} event g =
    record {
      sound = g.sound;
      held_where =
          λ h. g.held_where (or_left _ (is_state state Connecting && eqb (event_number event) (event_number GotFct)) h);
      timer_below = λ h. g.timer_below;
    }

-- changed parts: of the receive side and the state, of the transmit side, and all that going to ErrorReset clears

pub receive_changed : {rx rx' tx : ℕ} {state state' : LinkState} {held given given' : ℕ} {stored stored' : Bool}
    {r r' t : Store} →
    Sound rx tx state held given stored r t → rx' ≡ rx → bad_store rx r' ≡ false → given' ≤ 56 →
    (is_late state' ≡ false → given' ≡ 0) →
    ((given' ≡ 0 → ⊥) → given' + 1 ≤ free rx r') → (stored' ≡ true → given' + 1 ≤ free rx r') →
    Sound rx' tx state' held given' stored' r' t
receive_changed g same good most only some last =
    rw same
    (record {
      rx_size = g.rx_size;
      tx_size = g.tx_size;
      rx_good = good;
      tx_good = g.tx_good;
      held_most = g.held_most;
      given_most = most;
      given_where = only;
      given_room = some;
      stored_room = last;
    })

pub transmit_changed : {rx tx tx' : ℕ} {state : LinkState} {held held' given : ℕ} {stored : Bool} {r t t' : Store} →
    Sound rx tx state held given stored r t → tx' ≡ tx → bad_store tx t' ≡ false → held' ≤ 56 →
    Sound rx tx' state held' given stored r t'
transmit_changed g same good most =
    rw same
    (record {
      rx_size = g.rx_size;
      tx_size = g.tx_size;
      rx_good = g.rx_good;
      tx_good = good;
      held_most = most;
      given_most = g.given_most;
      given_where = g.given_where;
      given_room = g.given_room;
      stored_room = g.stored_room;
    })

pub all_cleared : {rx rx' tx : ℕ} {state : LinkState} {held given : ℕ} {stored stored' : Bool} {r r' t t' : Store} →
    Sound rx tx state held given stored r t → rx' ≡ rx → bad_store rx r' ≡ false → bad_store tx t' ≡ false →
    (stored' ≡ true → 1 ≤ free rx r') → AtRest rx' tx ErrorReset 0 0 0 stored' r' t'
all_cleared g same good good' last =
    record {
      sound =
          receive_changed (transmit_changed g refl good' (omega arith)) same good (omega arith) (λ h. refl)
          (λ some. absurd (some refl)) last;
      held_where = λ h. refl;
      timer_below = omega arith;
    }

-- a number that may stand only where the test holds
only_where : (here : Bool) (n : ℕ) → not here && not (eqb n 0) ≡ false → here ≡ false → n ≡ 0
only_where true n h w = absurd (true≢false w)
only_where false n h w = eqb-true n 0 (not-false (eqb n 0) h)

where_only : (here : Bool) (n : ℕ) → (here ≡ false → n ≡ 0) → not here && not (eqb n 0) ≡ false
where_only true n h = refl
where_only false n h = rw (eq-eqb n 0 (h refl))

-- room that is wanted where something is given out or the last stored is data
room_given : (given free : ℕ) (stored : Bool) → (not (eqb given 0) || stored) && ltb free (given + 1) ≡ false →
    (given ≡ 0 → ⊥) → given + 1 ≤ free
room_given given free stored h some = go (eqb given 0) refl h
  where
    go : (none : Bool) → eqb given 0 ≡ none → (not none || stored) && ltb free (given + 1) ≡ false → given + 1 ≤ free
    go true e h = absurd (some (eqb-true given 0 e))
    go false e h = ltb-false free (given + 1) h

room_stored : (given free : ℕ) (stored : Bool) → (not (eqb given 0) || stored) && ltb free (given + 1) ≡ false →
    stored ≡ true → given + 1 ≤ free
room_stored given free false h s = absurd (true≢false (sym s))
room_stored given free true h s = go (eqb given 0) h
  where
    go : (none : Bool) → (not none || true) && ltb free (given + 1) ≡ false → given + 1 ≤ free
    go true h = ltb-false free (given + 1) h
    go false h = ltb-false free (given + 1) h

has_room : (given free : ℕ) (stored : Bool) → ((given ≡ 0 → ⊥) → given + 1 ≤ free) → (stored ≡ true → given + 1 ≤ free) →
    (not (eqb given 0) || stored) && ltb free (given + 1) ≡ false
has_room given free stored some last = go (eqb given 0) stored refl last
  where
    go : (none s : Bool) → eqb given 0 ≡ none → (s ≡ true → given + 1 ≤ free) →
        (not none || s) && ltb free (given + 1) ≡ false
    go true true e d = le-ltb free (given + 1) (d refl)
    go true false e d = refl
    go false true e d = le-ltb free (given + 1) (d refl)
    go false false e d = le-ltb free (given + 1) (some (eqb-false given 0 e))

-- an end that passes, and back

module _ (e : End) (passes : both e ≡ 0) where
  passed_both : (k : ℕ) → k < 3 →
      (get_or (both_tests (length e.rx) (length e.tx) e.link) k (test STATE false)).applies ≡ false
  passed_both = passed_test (both_tests (length e.rx) (length e.tx) e.link) passes

  pub record_passes : bad_record e.link ≡ false
  record_passes = passed_both 0 (omega arith)

  pub sizes_pass : bad_rx_size (length e.rx) || bad_tx_size (length e.tx) ≡ false
  sizes_pass = passed_both 1 (omega arith)

  pub stores_pass : bad_receive (length e.rx) e.link || bad_store (length e.tx) e.link.tx ≡ false
  stores_pass = passed_both 2 (omega arith)

  pub receive_passes : bad_receive (length e.rx) e.link ≡ false
  receive_passes = or_left _ (bad_store (length e.tx) e.link.tx) stores_pass

  room_passes : lacks_room (length e.rx) e.link ≡ false
  room_passes = or_right (bad_store (length e.rx) e.link.rx) _ receive_passes

  pub passes_good : Good e
  passes_good =
      let s : LinkState = e.link.stage.state in
      let held : ℕ = e.link.credit.held.0 in
      let given : ℕ = e.link.credit.given.0 in
      record {
        sound =
            record {
              rx_size = or_left _ (bad_tx_size (length e.tx)) sizes_pass;
              tx_size = or_right (bad_rx_size (length e.rx)) _ sizes_pass;
              rx_good = or_left _ (lacks_room (length e.rx) e.link) receive_passes;
              tx_good = or_right (bad_receive (length e.rx) e.link) _ stores_pass;
              held_most = held_small e.link record_passes;
              given_most = given_small e.link record_passes;
              given_where =
                  only_where (is_late s) given
                  (or_right (ltb 56 given) _ (given_good e.link record_passes));
              given_room = room_given given (free (length e.rx) e.link.rx) e.link.marks.stored room_passes;
              stored_room = room_stored given (free (length e.rx) e.link.rx) e.link.marks.stored room_passes;
            };
        held_where = only_where (is_state s Run) held (or_right (ltb 56 held) _ (held_good e.link record_passes));
        timer_below = timer_below e.link record_passes;
      }

pub good_passes : (e : End) → Good e → both e ≡ 0
good_passes e g =
    let s : LinkState = e.link.stage.state in
    let held : ℕ = e.link.credit.held.0 in
    let given : ℕ = e.link.credit.given.0 in
    let passes : bad_record e.link ≡ false =
    rw (
      le-ltb 56 held g.sound.held_most,
      where_only (is_state s Run) held g.held_where,
      le-ltb 56 given g.sound.given_most,
      where_only (is_late s) given g.sound.given_where,
      lt-leb (limit_of s) e.link.stage.timer g.timer_below,
    ) in
    let room : lacks_room (length e.rx) e.link ≡ false =
    has_room given (free (length e.rx) e.link.rx) e.link.marks.stored g.sound.given_room
    g.sound.stored_room in
    rw (passes, g.sound.rx_size, g.sound.tx_size, g.sound.rx_good, room, g.sound.tx_good)
