-- After an event's effect the one move that fits leaves a good end: where none is made the table shows that what held
-- only in between does not hold, and where one is made that it may hold in the new state.
-- Assumes nothing.
use mathlib.Core.Path.{◌≡◌, refl, sym, ◌∙◌}
use mathlib.Core.Bool.{Bool, true, false, not, ◌||◌, ◌&&◌, not-and_self, and-false}
use mathlib.Core.List.{[]}
use Prim.Native.Nat.{◌<◌}
use native.Mathlib.Omega.{arith}
use borrow.Author.Tests.{leb-false, eqb-true, eqb-false, ne_eqb}
use Rattle.link.specs.Ends.{End, Settled, settled_at}
use Rattle.link.specs.Moves.{state_number, is_state, limit_of, counts_ticks, conditions, next_state, entered}
use Rattle.link.specs.Recovery.{goes_down, moves_to, settles}
use Rattle.link.specs.declared.LinkState.{LinkState}
use Rattle.link.specs.declared.LinkState.TheVariants.{ErrorReset, ErrorWait, Ready, Started, Connecting, Run}
use Rattle.link.specs.declared.Event.{Event}
use Rattle.link_laws.specs.NothingLost.{fell, eep_if}
use Rattle.link_laws.proofs.TableFacts.{stays_below, stays_held, onward_held, onward_given}
use Rattle.link_laws.proofs.TestLaws.{either_way}
use Rattle.link_laws.proofs.EndLaws.{Good, Between, receive_changed}
use Rattle.link_laws.proofs.ChangeLaws.{traffic, Changes, still}
use Rattle.link_laws.proofs.RecoveryLaws.{moved, down_change, down_state}

-- from another state
other_state : (s s' : LinkState) → is_state s' s ≡ false → is_state s' ErrorReset ≡ true → is_state s ErrorReset ≡ false
other_state s s' h k =
    ne_eqb (state_number s) 0 λ z. eqb-false (state_number s') (state_number s) h (eqb-true (state_number s') 0 k ∙ sym z)

-- what the one move that fits does: none is made, or one to ErrorReset, or one to another state
pub data Settles (event : Event) (e : End) : Settled → Type 0 where
  stays : is_state (next_state event e.link) e.link.stage.state ≡ true →
      Settles event e (settled_at e.link 0 e.rx)
  falls : is_state e.link.stage.state ErrorReset ≡ false → Settles event e (goes_down e)
  enters : is_state (next_state event e.link) e.link.stage.state ≡ false →
      is_state (next_state event e.link) ErrorReset ≡ false →
      Settles event e (settled_at (entered e.link (next_state event e.link)) 0 e.rx)

pub settled : (event : Event) (e : End) → Settles event e (settles event e)
unfolding settles moves_to
settled event e =
    either_way (Settles event e) (is_state (next_state event e.link) e.link.stage.state) _ _ stays λ other.
    either_way (Settles event e) (is_state (next_state event e.link) ErrorReset) _ _
    (λ down. falls (other_state e.link.stage.state (next_state event e.link) other down)) (enters other)

stay_good : (event : Event) (e : End) → Between event e →
    is_state (next_state event e.link) e.link.stage.state ≡ true → Good e
stay_good event e b stay =
    record {
      sound = b.sound;
      held_where = λ h. b.held_where (stays_held e.link.stage.state event (conditions e.link) stay h);
      timer_below = go (counts_ticks e.link.stage.state) refl;
    }
  where
    go : (counts : Bool) → counts_ticks e.link.stage.state ≡ counts →
        e.link.stage.timer < limit_of e.link.stage.state
    go true h =
        leb-false (limit_of e.link.stage.state) e.link.stage.timer
        (stays_below e.link.stage.state event (conditions e.link) stay h)
    go false h = b.timer_below h

limit_positive : (s : LinkState) → 0 < limit_of s
limit_positive ErrorReset = omega arith
limit_positive ErrorWait = omega arith
limit_positive Ready = omega arith
limit_positive Started = omega arith
limit_positive Connecting = omega arith
limit_positive Run = omega arith

enter_good : (event : Event) (e : End) → Between event e →
    is_state (next_state event e.link) e.link.stage.state || is_state (next_state event e.link) ErrorReset ≡ false →
    Good (moved e (settled_at (entered e.link (next_state event e.link)) 0 e.rx))
enter_good event e b onward =
    record {
      sound =
          receive_changed b.sound refl b.sound.rx_good b.sound.given_most
          (λ h. b.sound.given_where (onward_given e.link.stage.state event (conditions e.link) onward h))
          b.sound.given_room b.sound.stored_room;
      held_where = λ h. b.held_where (onward_held e.link.stage.state event (conditions e.link) onward h);
      timer_below = limit_positive (next_state event e.link);
    }

-- it changes the stores only as recovery says
abbrev pub Moves : End → Settled → Type 0
Moves e s =
    Changes e (moved e s) (traffic [] s.moved.discarded (eep_if (fell e (moved e s) && e.link.marks.stored)))

moves : {event : Event} {e : End} {s : Settled} → Between event e → Settles event e s → Moves e s
moves {event} {e} b (stays h) =
    record { good = stay_good event e b h; same_size = refl; change = rw (not-and_self (is_state e.link.stage.state ErrorReset)) still }
moves {event} {e} b (falls up) =
    let eep : eep_if (fell e (moved e (goes_down e)) && e.link.marks.stored) ≡ eep_if e.link.marks.stored =
    rw (up, down_state e) in
    rw eep (down_change event e b)
moves {event} {e} b (enters h k) =
    record {
      good = enter_good event e b (rw (h, k));
      same_size = refl;
      change = rw (k, and-false (not (is_state e.link.stage.state ErrorReset))) still;
    }

pub settle : (event : Event) (e : End) → Between event e → Moves e (settles event e)
settle event e b = moves b (settled event e)
