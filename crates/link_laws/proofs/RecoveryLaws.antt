-- Going to ErrorReset by a move, in its three steps: all is cleared, an open packet is closed with an EEP, and the rest
-- of a packet that is being sent is discarded. Each leaves a good end.
-- Assumes nothing.
use mathlib.Core.Path.{◌≡◌, refl, sym, ap, ◌∙◌}
use mathlib.Core.Bool.{Bool, true, false, not, ◌||◌, or-false, false≢true}
use mathlib.Core.List.{List, [], ◌++◌, append-nil}
use Prim.Native.Nat.{ℕ, ◌≤◌}
use native.Mathlib.Omega.{arith}
use borrow.Author.Tests.{lt-leb}
use Rattle.link.specs.Ends.{End, Settled}
use Rattle.link.specs.Recovery.{cleared, closed_link, closed_places, rest_discarded, goes_down}
use Rattle.link.specs.Calls.{with_link}
use lib.ListN.{length, take, drop, take-append-drop}
use lib.Seq.{length-take-le, drop-length, drop-nil}
use Rattle.vocabulary.specs.NChars.{EEP}
use Rattle.store.specs.Ring.{waiting, bad_store, full}
use Rattle.store.specs.Changes.{dropped, found}
use Rattle.store.specs.declared.Store.{Store}
use Rattle.store.proofs.RingLaws.{waiting_length, put_good, put_keeps_length, put_appends, drop_good, drop_drops}
use Rattle.store.proofs.RingLaws.{found_count, found_ended}
use Rattle.store.proofs.PacketLaws.{through_within, no_end_all}
use Rattle.link.specs.declared.LinkState.TheVariants.{ErrorReset}
use Rattle.link.specs.declared.Event.{Event}
use Rattle.link.specs.Records.{Link, Moved}
use Rattle.link_laws.specs.NothingLost.{eep_if, rx_waits, tx_waits}
use Rattle.link_laws.proofs.TestLaws.{either_way}
use Rattle.link_laws.proofs.EndLaws.{Good, Between, receive_changed, transmit_changed, all_cleared}
use Rattle.link_laws.proofs.ChangeLaws.{traffic, NoneWaits, Changes, still, effect_then_move}

-- the end when a move is made or none
abbrev pub moved : End → Settled → End
moved e s = record { link = s.moved.link; rx = s.rx; tx = e.tx }

abbrev clear : End → End
clear e = with_link e (cleared e.link)

abbrev close : End → End
close e = record { link = closed_link (length e.rx) e.link; rx = closed_places e.rx e.link; tx = e.tx }

abbrev discard : End → End
discard e = with_link e (rest_discarded e.tx e.link).link

clear_good : (event : Event) (e : End) → Between event e → Good (clear e)
clear_good event e b =
    all_cleared b.sound refl b.sound.rx_good b.sound.tx_good λ stored. omega (arith, b.sound.stored_room stored)

close_change : (e : End) → Good e → e.link.credit.given.0 ≡ 0 →
    Changes e (close e) (traffic [] 0 (eep_if e.link.marks.stored))
unfolding closed_link closed_places
close_change e g none = go e.link.marks.stored refl
  where
    go : (b : Bool) → e.link.marks.stored ≡ b → Changes e (close e) (traffic [] 0 (eep_if e.link.marks.stored))
    go true h =
        let good : bad_store (length e.rx) e.link.rx ≡ false = g.sound.rx_good in
        let room : full (length e.rx) e.link.rx ≡ false =
        lt-leb (length e.rx) e.link.rx.len (omega (arith, g.sound.stored_room h)) in
        rw h
        (record {
          good =
              record {
                sound =
                    receive_changed g.sound (put_keeps_length e.rx e.link.rx EEP)
                    (put_good (length e.rx) e.link.rx EEP good) g.sound.given_most g.sound.given_where
                    (λ some. absurd (some none)) (λ s. absurd (false≢true s));
                held_where = g.held_where;
                timer_below = g.timer_below;
              };
          same_size = put_keeps_length e.rx e.link.rx EEP;
          change = λ w.
              record {
                none_waits = w;
                away = [];
                counted = refl;
                transmit = append-nil (tx_waits e);
                receive = sym (put_appends e.rx e.link.rx EEP good room);
              };
        })
    go false h = rw h (record { good = rw h at g; same_size = refl; change = still })

-- the list that recovery discards: what waits through its first end
module _ (places : List ℕ) (s : Store) (good : bad_store (length places) s ≡ false) where
  count_within : (found places s).count ≤ s.len
  count_within = omega (arith, found_count places s good, through_within (waiting places s), waiting_length places s)

  left_over : waiting places (dropped (length places) s (found places s).count)
      ≡ drop (found places s).count (waiting places s)
  left_over = drop_drops places s good (found places s).count count_within

  discarded_split : waiting places s
      ≡ take (found places s).count (waiting places s)
      ++ waiting places (dropped (length places) s (found places s).count)
  discarded_split = sym (rw left_over (take-append-drop (found places s).count (waiting places s)))

  discarded_length : length (take (found places s).count (waiting places s)) ≡ (found places s).count
  discarded_length =
      length-take-le (found places s).count (waiting places s) (omega (arith, count_within, waiting_length places s))

  -- none is left where there is no end among them, or nothing
  unended_none : (found places s).ended ≡ false →
      waiting places (dropped (length places) s (found places s).count) ≡ []
  unended_none h =
      left_over
      ∙ ap (λ (n : ℕ). drop n (waiting places s))
      (found_count places s good ∙ no_end_all (waiting places s) (sym (found_ended places s good) ∙ h))
      ∙ drop-length (waiting places s)

  empty_none : waiting places s ≡ [] → waiting places (dropped (length places) s (found places s).count) ≡ []
  empty_none h = left_over ∙ ap (drop (found places s).count) h ∙ drop-nil (found places s).count

discard_change : (e : End) → Good e →
    Changes e (discard e) (traffic [] (rest_discarded e.tx e.link).discarded [])
unfolding rest_discarded
discard_change e g =
    either_way (λ (m : Moved). Changes e (with_link e m.link) (traffic [] m.discarded [])) e.link.marks.sent _ _
    (λ h.
    record {
      good =
          record {
            sound =
                transmit_changed g.sound refl (drop_good (length e.tx) e.link.tx good count)
                g.sound.held_most;
            held_where = g.held_where;
            timer_below = g.timer_below;
          };
      same_size = refl;
      change = λ w.
          record {
            none_waits = none w (found e.tx e.link.tx).ended refl;
            away = take count (tx_waits e);
            counted = discarded_length e.tx e.link.tx good;
            transmit = append-nil (tx_waits e) ∙ discarded_split e.tx e.link.tx good;
            receive = append-nil (rx_waits e);
          };
    })
    (λ h. record { good = g; same_size = refl; change = still })
  where
    good : bad_store (length e.tx) e.link.tx ≡ false
    good = g.sound.tx_good

    count : ℕ
    count = (found e.tx e.link.tx).count

    rest : List ℕ
    rest = waiting e.tx (dropped (length e.tx) e.link.tx count)

    none : NoneWaits e → (ended : Bool) → (found e.tx e.link.tx).ended ≡ ended →
        e.link.marks.discarding || not ended ≡ true → rest ≡ []
    none w true h k = empty_none e.tx e.link.tx good (w (sym (or-false e.link.marks.discarding) ∙ k))
    none w false h k = unended_none e.tx e.link.tx good h

pub down_change : (event : Event) (e : End) → Between event e →
    Changes e (moved e (goes_down e)) (traffic [] (goes_down e).moved.discarded (eep_if e.link.marks.stored))
unfolding goes_down
down_change event e b =
    let closing : Changes (clear e) (close (clear e)) (traffic [] 0 (eep_if e.link.marks.stored)) =
    close_change (clear e) (clear_good event e b) refl in
    let discarding : Changes (close (clear e)) (discard (close (clear e)))
    (traffic [] (rest_discarded e.tx (close (clear e)).link).discarded []) =
    discard_change (close (clear e)) closing.good in
    record {
      good = discarding.good;
      same_size = discarding.same_size ∙ closing.same_size;
      change = λ w.
          rw (append-nil (eep_if e.link.marks.stored))
          at (effect_then_move (closing.change w) (discarding.change (closing.change w).none_waits));
    }

pub down_state : (e : End) → (goes_down e).moved.link.stage.state ≡ ErrorReset
unfolding goes_down rest_discarded closed_link
down_state e =
    let closed : (closed_link (length e.rx) (cleared e.link)).stage.state ≡ ErrorReset =
    either_way (λ (l : Link). l.stage.state ≡ ErrorReset) e.link.marks.stored _ _ (λ h. refl) (λ h. refl) in
    either_way (λ (m : Moved). m.link.stage.state ≡ ErrorReset)
    (closed_link (length e.rx) (cleared e.link)).marks.sent _ _ (λ h. closed) (λ h. closed)
