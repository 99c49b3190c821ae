-- An end in the stretch, over an event: unless it goes back to ErrorReset it stays such an end, and what passed by the
-- effect passed by the whole. The table enters through two finite facts, each one computed test over all cases.
-- Assumes nothing.
use mathlib.Core.Path.{◌≡◌, refl, ap, ◌∙◌}
use mathlib.Core.Bool.{Bool, true, false, not, ◌||◌, true≢false}
use mathlib.Core.List.{List, []}
use Prim.Native.Nat.{ℕ}
use lib.Dec.{eqb}
use borrow.Author.Tests.{eqb-true, not-false}
use Rattle.vocabulary.specs.declared.Token.{Token}
use Rattle.link.specs.Ends.{End, Settled}
use Rattle.link.specs.Moves.{state_number, is_state, Conditions, conditions, state_after, next_state}
use Rattle.link.specs.Recovery.{settles}
use Rattle.link.specs.declared.LinkState.{LinkState}
use Rattle.link.specs.declared.LinkState.TheVariants.{ErrorReset, Run}
use Rattle.link.specs.declared.Event.{Event}
use Rattle.link.specs.declared.Event.TheVariants.{Quiet, Fault, GotFct, GotNChar, GotTimeCode, CreditError}
use Rattle.link.specs.Records.{Marks}
use Rattle.link.proofs.TableLaws.{every_case}
use Rattle.link_laws.proofs.TestLaws.{and_right, neither}
use Rattle.link_laws.proofs.EndLaws.{is_late, Good}
use Rattle.link_laws.proofs.PassLaws.{Opens, sends_none, sends_null, sends_late, Passes}
use Rattle.link_laws.proofs.RecoveryLaws.{moved, down_state}
use Rattle.link_laws.proofs.MoveLaws.{Settles, stays, falls, enters, settled, settle}
use Rattle.link_laws.proofs.EffectLaws.{Effected}

-- It passes STATE and STORE, as every end that calls left; from Connecting on a NULL was sent; and no puts are discarded.
pub record Up (e : End) : Type 0 where
  pub good : Good e
  pub is_up : is_state e.link.stage.state ErrorReset ≡ false
  pub null_sent : is_late e.link.stage.state ≡ true → e.link.stage.nullsent ≡ true
  pub keeps_puts : e.link.marks.discarding ≡ false

-- Connecting and Run are reached by NULLs exchanged
abbrev by_nulls : LinkState → Event → Conditions → Bool
by_nulls s e c = not (is_late (state_after s e c)) || (is_late s || not (not c.exchanged))

-- an FCT before Connecting, and an N-Char before Run, lead to ErrorReset
abbrev pub is_early : LinkState → Event → Bool
is_early s Quiet = false
is_early s Fault = false
is_early s GotFct = not (is_late s)
is_early s GotNChar = not (is_state s Run)
is_early s GotTimeCode = false
is_early s CreditError = false

abbrev early_ends : LinkState → Event → Conditions → Bool
early_ends s e c = is_state s ErrorReset || (is_state (state_after s e c) ErrorReset || not (is_early s e))

module _ (s : LinkState) (e : Event) (c : Conditions) where
  nulls_exchanged : is_late (state_after s e c) ≡ true → is_late s ≡ false → c.exchanged ≡ true
  nulls_exchanged late early =
      not-false c.exchanged
      (neither (not (is_late (state_after s e c))) (is_late s) (not c.exchanged) (every_case by_nulls tt s e c) (ap not late) early)

  pub not_early : is_state s ErrorReset ≡ false → is_state (state_after s e c) ErrorReset ≡ false → is_early s e ≡ false
  not_early =
      neither (is_state s ErrorReset) (is_state (state_after s e c) ErrorReset) (is_early s e) (every_case early_ends tt s e c)

still_sent : {late before after : Bool} {sent : List Token} → Opens late before after sent → before ≡ true → after ≡ true
still_sent (sends_none same) h = same ∙ h
still_sent (sends_null is) h = is
still_sent (sends_late t late same) h = same ∙ h

-- after an event that did not end the stretch
pub record Onward (this : Event) (e mid e' : End) (heard sent : List Token) : Type 0 where
  pub up : Up e'
  pub on : is_state (next_state this mid.link) ErrorReset ≡ false
  pub passes : Passes e e' heard sent [] []

module _ {this : Event} {e mid : End} {heard sent : List Token} (u : Up e) (f : Effected this e mid heard sent) where
  mid_up : is_state mid.link.stage.state ErrorReset ≡ false
  mid_up = rw f.same_state u.is_up

  null_sent_mid : is_late e.link.stage.state ≡ true → mid.link.stage.nullsent ≡ true
  null_sent_mid late = still_sent f.passes.opens (u.null_sent late)

  keeps_puts_mid : mid.link.marks.discarding ≡ false
  keeps_puts_mid = ap (λ (m : Marks). m.discarding) f.same_marks ∙ u.keeps_puts

  null_sent_then : is_late (next_state this mid.link) ≡ true → mid.link.stage.nullsent ≡ true
  null_sent_then late = go (is_late mid.link.stage.state) refl
    where
      go : (b : Bool) → is_late mid.link.stage.state ≡ b → mid.link.stage.nullsent ≡ true
      go true h = null_sent_mid (rw f.same_state at h)
      go false h =
          and_right mid.link.stage.gotnull mid.link.stage.nullsent
          (nulls_exchanged mid.link.stage.state this (conditions mid.link) late h)

  onward : {s : Settled} → Settles this mid s → Good (moved mid s) →
      is_state (moved mid s).link.stage.state ErrorReset ≡ false → Onward this e mid (moved mid s) heard sent
  onward (stays same) good up =
      record {
        up =
            record {
              good = good;
              is_up = up;
              null_sent = λ late. null_sent_mid (rw f.same_state at late);
              keeps_puts = keeps_puts_mid;
            };
        on =
            ap (λ (n : ℕ). eqb n 0)
            (eqb-true (state_number (next_state this mid.link)) (state_number mid.link.stage.state) same) ∙ mid_up;
        passes = f.passes;
      }
  onward (falls up') good up = absurd (true≢false (rw (down_state mid) at up))
  onward (enters other on) good up =
      record {
        up = record { good = good; is_up = up; null_sent = null_sent_then; keeps_puts = keeps_puts_mid };
        on = on;
        passes = f.passes;
      }

  pub event_onward : is_state (moved mid (settles this mid)).link.stage.state ErrorReset ≡ false →
      Onward this e mid (moved mid (settles this mid)) heard sent
  event_onward = onward (settled this mid) (settle this mid f.between).good
