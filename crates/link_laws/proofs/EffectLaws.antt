-- What an event does before the move, and the law of effect, then move, which serves every call that may move the state.
-- Of a tick, a fault and a control change: the stores stay.
-- Assumes nothing.
use mathlib.Core.Path.{◌≡◌, refl, sym, ap, ◌∙◌}
use mathlib.Core.Bool.{◌&&◌, true≢false}
use mathlib.Core.List.{List, []}
use Prim.Native.Nat.{ℕ}
use lib.ListN.{length}
use Rattle.vocabulary.specs.declared.Token.{Token}
use Rattle.link.specs.Ends.{End, with_controls}
use Rattle.link.specs.Moves.{counts_ticks}
use Rattle.link.specs.Received.{counted}
use Rattle.link.specs.Recovery.{settles}
use Rattle.link.specs.Calls.{with_link}
use Rattle.link.specs.declared.Event.{Event}
use Rattle.link.specs.declared.Event.TheVariants.{Quiet}
use Rattle.link.specs.Records.{Controls, Marks, Link}
use Rattle.link_laws.specs.Tokens.{n_chars_on}
use Rattle.link_laws.specs.NothingLost.{fell, ends_in_data, eep_if, with_eep}
use Rattle.link_laws.proofs.EndLaws.{Good, Between, still_between}
use Rattle.link_laws.proofs.ChangeLaws.{traffic, ChangeTo, NoneWaits, Changes, effect_then_move}
use Rattle.link_laws.proofs.PassLaws.{Passes, nothing_passes, passing_change, still_none}
use Rattle.link_laws.proofs.RecoveryLaws.{moved}
use Rattle.link_laws.proofs.MoveLaws.{Moves, settle}
use Rattle.link_laws.proofs.TestLaws.{either_way}

-- the marks once these are sent and those are stored
abbrev pub marks_after : List ℕ → List ℕ → Marks → Marks
marks_after sends stores m =
    record {
      stored = ends_in_data stores m.stored;
      sent = ends_in_data sends m.sent;
      taken = m.taken;
      put = m.put;
      discarding = m.discarding;
    }

-- the end between the effect and the move: what was heard and what was sent on the way there
pub record Effected (event : Event) (e mid : End) (heard sent : List Token) : Type 0 where
  pub between : Between event mid
  pub same_state : mid.link.stage.state ≡ e.link.stage.state
  pub same_size : length mid.rx ≡ length e.rx
  pub same_marks : mid.link.marks ≡ marks_after (n_chars_on sent) (n_chars_on heard) e.link.marks
  pub passes : Passes e mid heard sent [] []

pub effected : {event : Event} {e mid : End} {heard sent : List Token} → Between event mid →
    mid.link.stage.state ≡ e.link.stage.state → length mid.rx ≡ length e.rx →
    mid.link.marks ≡ marks_after (n_chars_on sent) (n_chars_on heard) e.link.marks → Passes e mid heard sent [] [] →
    Effected event e mid heard sent
effected b state size marks passes =
    record { between = b; same_state = state; same_size = size; same_marks = marks; passes = passes }

module _ {event : Event} {e mid : End} {heard sent : List Token} (f : Effected event e mid heard sent) where
  pub effect_change : NoneWaits e → ChangeTo e mid (traffic (n_chars_on sent) 0 (n_chars_on heard))
  effect_change w =
      passing_change f.passes λ h. still_none f.passes (w (ap (λ (m : Marks). m.discarding) (sym f.same_marks) ∙ h))

  pub effect_settles :
      Changes e (moved mid (settles event mid))
      (traffic (n_chars_on sent) (settles event mid).moved.discarded
      (with_eep e (moved mid (settles event mid)) (n_chars_on heard)))
  effect_settles =
      let move : Moves mid (settles event mid) = settle event mid f.between in
      let eep : eep_if (fell mid (moved mid (settles event mid)) && mid.link.marks.stored)
      ≡ eep_if (fell e (moved mid (settles event mid)) && ends_in_data (n_chars_on heard) e.link.marks.stored) =
      rw (f.same_state, ap (λ (m : Marks). m.stored) f.same_marks) in
      record {
        good = move.good;
        same_size = move.same_size ∙ f.same_size;
        change = λ w. rw eep at (effect_then_move (effect_change w) (move.change (effect_change w).none_waits));
      }

module _ (e : End) (g : Good e) where
  -- a fault, and whatever is ignored
  pub nothing_done : (event : Event) → Effected event e e [] []
  nothing_done event = effected (still_between event g) refl refl refl nothing_passes

  pub controls_changed : (c : Controls) → Effected Quiet e (with_link e (with_controls e.link c)) [] []
  controls_changed c = effected (still_between Quiet g) refl refl refl nothing_passes

  pub tick_counted : Effected Quiet e (with_link e (counted e.link)) [] []
  unfolding counted
  tick_counted =
      either_way (λ (l : Link). Effected Quiet e (with_link e l) [] []) (counts_ticks e.link.stage.state) _ _
      (λ counts.
      effected
      (record {
        sound = g.sound;
        held_where = (still_between Quiet g).held_where;
        timer_below = λ h. absurd (true≢false (sym counts ∙ h));
      })
      refl refl refl nothing_passes)
      (λ h. nothing_done Quiet)
