-- What a send does before the move: an N-Char goes from the front of the transmit store, an FCT is granted only with
-- room for all that is then given out, and all else leaves credit and stores as they were.
-- Assumes nothing.
use mathlib.Core.Path.{◌≡◌, refl, sym, ◌∙◌}
use mathlib.Core.Bool.{true, false, not, true≢false}
use mathlib.Core.List.{[], ◌∷◌, append-nil}
use Prim.Native.Nat.{ℕ, ◌+◌, ◌≤◌, ◌<◌}
use native.Mathlib.Omega.{arith}
use lib.Dec.{eqb}
use lib.ListN.{length, get_or}
use borrow.Author.Tests.{eqb-false, le-ltb, not-true}
use Rattle.std.specs.Prelude.{Option, None, Some}
use Rattle.vocabulary.specs.declared.Token.{Token}
use Rattle.vocabulary.specs.declared.Token.TheVariants.{Null, Fct, NChar, TimeCode}
use Rattle.store.specs.Ring.{free, empty}
use Rattle.store.specs.Changes.{front_of}
use Rattle.store.proofs.ReadLaws.{read_small}
use Rattle.store.proofs.RingLaws.{drop_good, front_is_first}
use Rattle.link.specs.Ends.{End}
use Rattle.link.specs.Send.{grants, has_n_char, choice_with, choice_in, booked_token, booked, sending}
use Rattle.link.specs.Calls.{with_link, sent}
use Rattle.link.specs.declared.LinkState.{LinkState}
use Rattle.link.specs.declared.LinkState.TheVariants.{ErrorReset, ErrorWait, Ready, Started, Connecting, Run}
use Rattle.link.specs.declared.Event.TheVariants.{Quiet}
use Rattle.link_laws.specs.Tokens.{tokens_of}
use Rattle.link_laws.specs.NothingLost.{rx_waits, tx_waits}
use Rattle.link_laws.proofs.GrantProof.{credit_rule}
use Rattle.link_laws.proofs.EndLaws.{is_late, Good, still_between, receive_changed, transmit_changed}
use Rattle.link_laws.proofs.PassLaws.{sends_null, sends_late, hears_none, stores_stay}
use Rattle.link_laws.proofs.TestLaws.{either_way, and_left, and_right}
use Rattle.link_laws.proofs.EffectLaws.{Effected, effected, nothing_done}

module _ (e : End) (g : Good e) where
  abbrev Books : Token → Type 0
  Books t = Effected Quiet e (with_link e (booked_token e.tx e.link t)) [] (t ∷ [])

  null_books : Books Null
  null_books =
      effected (still_between Quiet g) refl refl refl
      (stores_stay refl refl (omega arith) (omega arith) (sends_null refl) (hears_none refl) (refl, tt))

  module _ (there : is_late e.link.stage.state ≡ true) where
    time_code_books : (v : ℕ) → Books (TimeCode v)
    time_code_books v =
        effected (still_between Quiet g) refl refl refl
        (stores_stay refl refl (omega arith) (omega arith) (sends_late (TimeCode v) there refl) (hears_none refl) (refl, tt))

    fct_books : grants (length e.rx) e.link ≡ true → Books Fct
    fct_books may =
        let given : ℕ = e.link.credit.given.0 in
        let places : ℕ = free (length e.rx) e.link.rx in
        let safe : (given + 8 ≤ 56) × (given + 8 < places) = credit_rule.safe given places may in
        effected
        (record {
          sound =
              receive_changed g.sound refl g.sound.rx_good safe.0 (λ h. absurd (true≢false (sym there ∙ h)))
              (λ h. omega (arith, safe.1)) (λ h. omega (arith, safe.1));
          held_where = (still_between Quiet g).held_where;
          timer_below = λ h. g.timer_below;
        })
        refl refl refl
        (stores_stay refl refl (omega arith) (omega arith) (sends_late Fct there refl) (hears_none refl) (refl, tt))

    n_char_books : has_n_char e.link ≡ true → Books (NChar (front_of e.tx e.link.tx))
    n_char_books has =
        let credit : eqb e.link.credit.held.0 0 ≡ false =
        not-true (eqb e.link.credit.held.0 0)
        (and_left (not (eqb e.link.credit.held.0 0)) (not (empty e.link.tx)) has) in
        let some : empty e.link.tx ≡ false =
        not-true (empty e.link.tx) (and_right (not (eqb e.link.credit.held.0 0)) (not (empty e.link.tx)) has) in
        effected
        (record {
          sound =
              transmit_changed g.sound refl (drop_good (length e.tx) e.link.tx g.sound.tx_good 1)
              (omega (arith, g.sound.held_most));
          held_where = λ h. omega (arith, (still_between Quiet g).held_where h);
          timer_below = λ h. g.timer_below;
        })
        refl refl refl
        (record {
          held = omega (arith, eqb-false e.link.credit.held.0 0 credit);
          given = omega arith;
          transmit = append-nil (tx_waits e) ∙ front_is_first e.tx e.link.tx g.sound.tx_good some;
          receive = append-nil (rx_waits e);
          opens = sends_late (NChar (front_of e.tx e.link.tx)) there refl;
          hears = hears_none refl;
          whole = (le-ltb 257 (front_of e.tx e.link.tx) (read_small (get_or e.tx e.link.tx.front 0)), tt);
        })

  in_run : (o : Option ℕ) → is_late e.link.stage.state ≡ true → Books (choice_with o (length e.rx) e.tx e.link)
  in_run None there =
      either_way Books (grants (length e.rx) e.link) _ _ (fct_books there)
      (λ h. either_way Books (has_n_char e.link) _ _ (n_char_books there) (λ h. null_books))
  in_run (Some v) there = time_code_books there v

  abbrev SendsIn : LinkState → Type 0
  SendsIn s =
      Effected Quiet e (with_link e (booked e.tx e.link (choice_in s (length e.rx) e.tx e.link))) []
      (tokens_of (choice_in s (length e.rx) e.tx e.link))

  in_state : (s : LinkState) → e.link.stage.state ≡ s → SendsIn s
  in_state ErrorReset h = nothing_done e g Quiet
  in_state ErrorWait h = nothing_done e g Quiet
  in_state Ready h = nothing_done e g Quiet
  in_state Started h = null_books
  in_state Connecting h =
      either_way Books (grants (length e.rx) e.link) _ _ (fct_books (rw h)) (λ k. null_books)
  in_state Run h = in_run e.link.offer (rw h)

  pub send_effect : Effected Quiet e (with_link e (sent e).link) [] (tokens_of (sent e).sent)
  unfolding sending
  send_effect = in_state e.link.stage.state refl
