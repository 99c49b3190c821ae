-- What a move leaves of the marks, and how many it discards: all stay unless it goes to ErrorReset; there the last stored
-- and the last sent count as ends, and puts are discarded where the rest of an unfinished packet holds no end.
-- Assumes nothing.
use mathlib.Core.Path.{◌≡◌, refl}
use mathlib.Core.Bool.{Bool, true, false, not, ◌||◌, ◌&&◌, or-false, not-and_self, and-false}
use mathlib.Core.List.{List}
use Prim.Native.Nat.{ℕ}
use Rattle.vocabulary.specs.Choice.{pick}
use Rattle.store.specs.Packets.{through_end, holds_end}
use Rattle.store.specs.Changes.{found}
use Rattle.store.proofs.RingLaws.{found_count, found_ended}
use Rattle.link.specs.Ends.{End, Settled}
use Rattle.link.specs.Moves.{is_state}
use Rattle.link.specs.Recovery.{closed_link, rest_discarded, goes_down, settles}
use Rattle.link.specs.declared.LinkState.TheVariants.{ErrorReset}
use Rattle.link.specs.declared.Event.{Event}
use Rattle.link.specs.Records.{Marks}
use Rattle.link_laws.specs.NothingLost.{fell, tx_waits}
use Rattle.link_laws.proofs.EndLaws.{Between}
use Rattle.link_laws.proofs.RecoveryLaws.{moved, down_state}
use Rattle.link_laws.proofs.MoveLaws.{Settles, stays, falls, enters, settled}

abbrev pub recovered : List ℕ → Marks → Marks
recovered waits m =
    record {
      stored = false;
      sent = false;
      taken = m.taken;
      put = m.put;
      discarding = m.discarding || m.sent && not (holds_end waits);
    }

pub data Recovers (e : End) (s : Settled) : Type 0 where
  unmoved : fell e (moved e s) ≡ false → s.moved.link.marks ≡ e.link.marks → s.moved.discarded ≡ 0 → Recovers e s
  fallen : fell e (moved e s) ≡ true → s.moved.link.marks ≡ recovered (tx_waits e) e.link.marks →
      s.moved.discarded ≡ pick e.link.marks.sent (through_end (tx_waits e)) 0 → Recovers e s

module _ (event : Event) (e : End) (b : Between event e) where
  abbrev Recovered : Type 0
  Recovered =
      ((goes_down e).moved.link.marks ≡ recovered (tx_waits e) e.link.marks)
      × ((goes_down e).moved.discarded ≡ pick e.link.marks.sent (through_end (tx_waits e)) 0)

  down : Recovered
  unfolding goes_down rest_discarded closed_link
  down = go e.link.marks.stored e.link.marks.sent refl refl
    where
      ended : (found e.tx e.link.tx).ended ≡ holds_end (tx_waits e)
      ended = found_ended e.tx e.link.tx b.sound.tx_good

      count : (found e.tx e.link.tx).count ≡ through_end (tx_waits e)
      count = found_count e.tx e.link.tx b.sound.tx_good

      go : (stored sent : Bool) → e.link.marks.stored ≡ stored → e.link.marks.sent ≡ sent → Recovered
      go true true h k = rw (h, k, ended, count) (refl, refl)
      go true false h k = rw (h, k, or-false e.link.marks.discarding) (refl, refl)
      go false true h k = rw (h, k, ended, count) (refl, refl)
      go false false h k = rw (h, k, or-false e.link.marks.discarding) (refl, refl)

  marks : {s : Settled} → Settles event e s → Recovers e s
  marks (stays h) = unmoved (not-and_self (is_state e.link.stage.state ErrorReset)) refl refl
  marks (falls up) = fallen (rw (up, down_state e)) down.0 down.1
  marks (enters h on) = unmoved (rw (on, and-false (not (is_state e.link.stage.state ErrorReset)))) refl refl

  pub settle_marks : Recovers e (settles event e)
  settle_marks = marks (settled event e)
