-- A token that was counted while it was under way is heeded, unless it comes too early and ends the stretch; in no case is it
-- a credit error.
-- Assumes nothing.
use mathlib.Core.Path.{◌≡◌, refl, sym, ap, ◌∙◌}
use mathlib.Core.Bool.{Bool, true, false, not, true≢false}
use mathlib.Core.List.{[], ◌∷◌}
use Prim.Native.Nat.{◌+◌, ◌*◌, ◌≤◌}
use native.Mathlib.Omega.{arith}
use lib.Dec.{eqb}
use lib.ListN.{length}
use borrow.Author.Tests.{le-ltb, ne_eqb}
use Rattle.vocabulary.specs.Tokens.{bad_char}
use Rattle.vocabulary.specs.declared.Token.{Token}
use Rattle.vocabulary.specs.declared.Token.TheVariants.{Null, Fct, NChar, TimeCode}
use Rattle.time.specs.declared.Time.{Time}
use Rattle.link.specs.Ends.{End}
use Rattle.link.specs.Moves.{is_state, event_number, Conditions, state_after}
use Rattle.link.specs.Credit.{passes56, none_given}
use Rattle.link.specs.Received.{fct_effect, n_char_effect, time_code_effect, token_effect}
use Rattle.link.specs.Calls.{after_token}
use Rattle.link.specs.declared.LinkState.TheVariants.{ErrorReset, Run}
use Rattle.link.specs.declared.Event.TheVariants.{CreditError}
use Rattle.link_laws.specs.Tokens.{fcts_on, n_chars_on}
use Rattle.link_laws.proofs.EndLaws.{is_late}
use Rattle.link_laws.proofs.TokenLaws.{heeds}
use Rattle.link_joined.proofs.UpLaws.{Up, is_early, not_early}

-- nothing but NULL comes before NULL is known
abbrev pub Told : Bool → Token → Type 0
Told got Null = Unit {0}
Told got Fct = got ≡ true
Told got (NChar n) = got ≡ true
Told got (TimeCode v) = got ≡ true

pub record Expected (e : End) (t : Token) : Type 0 where
  pub told : Told e.link.stage.gotnull t
  pub covered : e.link.credit.held.0 + 8 * fcts_on (t ∷ []) ≤ 56
  pub granted : length (n_chars_on (t ∷ [])) ≤ e.link.credit.given.0
  pub whole : bad_char t ≡ false

module _ (e : End) (u : Up e) (time : Time) where
  abbrev NoCreditError : Token → Type 0
  NoCreditError t = eqb (event_number (after_token e time t).event) (event_number CreditError) ≡ false

  data Comes (t : Token) : Type 0 where
    heard : heeds e.link t ≡ true → NoCreditError t → Comes t
    early : is_early e.link.stage.state (after_token e time t).event ≡ true → NoCreditError t → Comes t

  comes : (t : Token) → Expected e t → Comes t
  unfolding token_effect fct_effect n_char_effect time_code_effect
  comes Null x = heard (rw u.is_up) (rw u.is_up)
  comes Fct x = go (is_late e.link.stage.state) refl
    where
      small : passes56 e.link.credit.held.0 ≡ false
      small = le-ltb 56 (e.link.credit.held.0 + 8) (omega (arith, x.covered))

      go : (late : Bool) → is_late e.link.stage.state ≡ late → Comes Fct
      go true h = heard (rw (u.is_up, x.told, h, small)) (rw (u.is_up, x.told, h, small))
      go false h = early (rw (u.is_up, x.told, h) (ap not h)) (rw (u.is_up, x.told, h))
  comes (NChar n) x = go (is_state e.link.stage.state Run) refl
    where
      some : none_given e.link.credit.given.0 ≡ false
      some = ne_eqb e.link.credit.given.0 0 (omega (arith, x.granted))

      go : (run : Bool) → is_state e.link.stage.state Run ≡ run → Comes (NChar n)
      go true h = heard (rw (u.is_up, x.told, h, some)) (rw (u.is_up, x.told, h, some))
      go false h = early (rw (u.is_up, x.told, h) (ap not h)) (rw (u.is_up, x.told, h))
  comes (TimeCode v) x = heard (rw (u.is_up, x.told)) (go (is_state e.link.stage.state Run) refl)
    where
      go : (run : Bool) → is_state e.link.stage.state Run ≡ run → NoCreditError (TimeCode v)
      go true h = rw (u.is_up, x.told, h)
      go false h = rw (u.is_up, x.told, h)

  pub expected_heeded : (t : Token) (c : Conditions) → Expected e t →
      is_state (state_after e.link.stage.state (after_token e time t).event c) ErrorReset ≡ false → heeds e.link t ≡ true
  expected_heeded t c x on = go (comes t x)
    where
      go : Comes t → heeds e.link t ≡ true
      go (heard h none) = h
      go (early h none) = absurd (true≢false (sym h ∙ not_early e.link.stage.state (after_token e time t).event c u.is_up on))

  pub no_credit_error_lem : (t : Token) → Expected e t → NoCreditError t
  no_credit_error_lem t x = go (comes t x)
    where
      go : Comes t → NoCreditError t
      go (heard h none) = none
      go (early h none) = none
