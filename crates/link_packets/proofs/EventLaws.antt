-- What holds of both stores holds over an event: over its effect, and over the one move that fits.
-- Assumes nothing.
use Prim.Native.Nat.{ℕ}
use mathlib.Core.Path.{◌≡◌, sym, subst, ◌∙◌}
use mathlib.Core.Bool.{Bool, ◌&&◌}
use mathlib.Core.List.{List, [], ◌++◌, append-nil, append-eq-nil_iff}
use lib.Seq.{take_at}
use Rattle.vocabulary.specs.Choice.{pick}
use Rattle.vocabulary.specs.declared.Token.{Token}
use Rattle.link.specs.Ends.{End, Settled}
use Rattle.link.specs.declared.Event.{Event}
use Rattle.link_laws.specs.Tokens.{n_chars_on}
use Rattle.link_laws.specs.NothingLost.{fell, eep_if, rx_waits, tx_waits}
use Rattle.link_laws.proofs.ChangeLaws.{ChangeTo, NoneWaits, traffic}
use Rattle.link_laws.proofs.RecoveryLaws.{moved}
use Rattle.link_laws.proofs.MoveLaws.{Moves}
use Rattle.link_laws.proofs.EffectLaws.{Effected, marks_after}
use Rattle.link_packets.specs.Stretches.{Stretches, carrying, ending}
use Rattle.link_packets.proofs.MoveMarks.{Recovers, unmoved, fallen, recovered}
use Rattle.link_packets.proofs.HoldLaws.{Holds, hold_effect, hold_fall}

abbrev pub HoldsAt : Bool → Stretches → Stretches → List ℕ → List ℕ → End → Type 0
HoldsAt was got out taken handed_in e = Holds was got out taken handed_in (rx_waits e) (tx_waits e) e.link.marks

module _ {was : Bool} {got out : Stretches} {taken handed_in : List ℕ} where
  -- while puts are discarded nothing waits to be sent
  pub none_waits : (e : End) → HoldsAt was got out taken handed_in e → NoneWaits e
  none_waits e h discarding =
      ((append-eq-nil_iff {p = out.present} {q = tx_waits e}).0 (h.transmit.none_since discarding)).1

  -- the effect of an event
  pub effect_holds : {this : Event} {heard sent : List Token} (e mid : End) → Effected this e mid heard sent →
      HoldsAt was got out taken handed_in e →
      HoldsAt was (carrying got (n_chars_on heard)) (carrying out (n_chars_on sent)) taken handed_in mid
  effect_holds {heard = heard} {sent = sent} e mid f h =
      let after : Holds was (carrying got (n_chars_on heard)) (carrying out (n_chars_on sent)) taken handed_in
      (rx_waits e ++ n_chars_on heard) (tx_waits mid) (marks_after (n_chars_on sent) (n_chars_on heard) e.link.marks) =
      hold_effect (n_chars_on sent) (n_chars_on heard)
      (subst (λ (tx : List ℕ). Holds was got out taken handed_in (rx_waits e) tx e.link.marks)
      (sym (append-nil (tx_waits e)) ∙ f.passes.transmit) h) in
      rw (← f.passes.receive, f.same_marks) after

abbrev Change : End → Settled → Type 0
Change e s =
    ChangeTo e (moved e s)
    (traffic [] s.moved.discarded (eep_if (fell e (moved e s) && e.link.marks.stored)))

abbrev ended_if : Bool → Stretches → Stretches
ended_if b s = pick b (ending s) s

module _ {was : Bool} {got out : Stretches} {taken handed_in : List ℕ} where
  -- and its move
  pub move_holds : (e : End) (s : Settled) → Moves e s → Recovers e s → HoldsAt was got out taken handed_in e →
      HoldsAt was (ended_if (fell e (moved e s)) got) (ended_if (fell e (moved e s)) out) taken handed_in (moved e s)
  move_holds e s move (unmoved up same none) h =
      let change : Change e s = move.change (none_waits e h) in
      let none_away : change.away ≡ [] = sym (take_at change.away [] 0 (change.counted ∙ none)) in
      let same_tx : tx_waits (moved e s) ≡ tx_waits e =
      sym (sym (append-nil (tx_waits e)) ∙ rw none_away at change.transmit) in
      let same_rx : rx_waits (moved e s) ≡ rx_waits e = sym (sym (append-nil (rx_waits e)) ∙ rw up at change.receive) in
      rw (up, same, same_tx, same_rx) h
  move_holds e s move (fallen down same discards) h =
      let change : Change e s = move.change (none_waits e h) in
      let left : tx_waits e ≡ change.away ++ tx_waits (moved e s) =
      sym (append-nil (tx_waits e)) ∙ change.transmit in
      let eep : rx_waits e ++ eep_if e.link.marks.stored ≡ rx_waits (moved e s) = rw down at change.receive in
      let after : Holds was (ending got) (ending out) taken handed_in (rx_waits e ++ eep_if e.link.marks.stored)
      (tx_waits (moved e s)) (recovered (tx_waits e) e.link.marks) =
      hold_fall (tx_waits (moved e s)) change.away left (change.counted ∙ discards) h in
      rw (down, same, ← eep) after
