-- A call at an end in the stretch, whatever happens: unless it goes back to ErrorReset, the end stays such an end and the
-- tokens received and sent, and what its host put and took, account for the change.
-- Assumes nothing.
use mathlib.Core.Path.{◌≡◌, refl, sym, ap, subst, ◌∙◌}
use mathlib.Core.Bool.{true, false, true≢false}
use mathlib.Core.List.{List, [], ◌∷◌}
use Prim.Native.Nat.{ℕ}
use Rattle.vocabulary.specs.declared.Token.{Token}
use Rattle.link.specs.Ends.{End}
use Rattle.link.specs.Moves.{is_state, Conditions, conditions, state_after}
use Rattle.link.specs.Reset.{resets}
use Rattle.link.specs.declared.LinkState.{LinkState}
use Rattle.link.specs.declared.LinkState.TheVariants.{ErrorReset}
use Rattle.link.specs.declared.Event.{Event}
use Rattle.link.specs.Records.{Stage}
use Rattle.link_laws.specs.Tokens.{tokens_of}
use Rattle.link_laws.specs.Calls.{Call, token_in, Reply, if_accepted}
use Rattle.link_laws.proofs.PassLaws.{Passes, nothing_passes}
use Rattle.link_laws.proofs.HostLaws.{Hosted, offer_hosted, take_hosted, put_hosted}
use Rattle.link_laws.proofs.WalkLaws.{IsEvent, a_tick, a_send, a_fault, a_control, a_token, Happened, nothing, event}
use Rattle.link_laws.proofs.WalkLaws.{a_put, a_take, an_offer, a_reset}
use Rattle.link_joined.proofs.UpLaws.{Up, Onward, event_onward}
use Rattle.link_joined.proofs.TokenLaws.{Expected, expected_heeded}

abbrev pub AllExpected : End → List Token → Type 0
AllExpected e [] = Unit {0}
AllExpected e (t ∷ ts) = Expected e t

module _ (e : End) (u : Up e) where
  abbrev pub Goes : Call → Reply → Type 0
  Goes c r =
      is_state r.end.link.stage.state ErrorReset ≡ false →
      Up r.end
      × Passes e r.end (if_accepted r.refusal (token_in c)) (tokens_of r.sent) r.puts r.takes

  -- what the host does leaves the state
  hosted : {e' : End} {puts takes : List ℕ} → Hosted e u.good e' puts takes → Up e' × Passes e e' [] [] puts takes
  hosted {e'} h = (
    record {
      good = h.good;
      is_up = rw h.same_stage u.is_up;
      null_sent = rw h.same_stage u.null_sent;
      keeps_puts = h.same_discarding ∙ u.keeps_puts;
    },
    h.passes,
  )

  -- an event hears the token that it is called with
  all_heard : {c : Call} {this : Event} {heard : List Token} (at : Conditions) → IsEvent e c this heard →
      AllExpected e (token_in c) → is_state (state_after e.link.stage.state this at) ErrorReset ≡ false → heard ≡ token_in c
  all_heard at a_tick x on = refl
  all_heard at a_send x on = refl
  all_heard at (a_fault f) x on = refl
  all_heard at (a_control k) x on = refl
  all_heard at (a_token t time) x on = rw (expected_heeded e u time t at x on)

  pub call_goes : {c : Call} {r : Reply} → Happened e c r → AllExpected e (token_in c) → Goes c r
  unfolding resets
  call_goes (nothing c number time refused other) x up = rw refused (u, nothing_passes)
  call_goes (event c this mid sent heard time tick_out is f) x up =
      let after : Onward this e mid _ heard (tokens_of sent) = event_onward u f up in
      let all : heard ≡ token_in c =
      all_heard (conditions mid.link) is x
      (subst (λ (s : LinkState). is_state (state_after s this (conditions mid.link)) ErrorReset ≡ false) f.same_state
      after.on) in
      (after.up, rw all at after.passes)
  call_goes (a_put n time small room) x up =
      hosted (put_hosted e u.good n small u.keeps_puts (rw u.keeps_puts at room))
  call_goes (a_take time some) x up = hosted (take_hosted e u.good some)
  call_goes (an_offer v time) x up = hosted (offer_hosted e u.good v)
  call_goes (a_reset time) x up = absurd (true≢false up)

  -- a call by which it does go back takes nothing
  pub down_takes_none : {c : Call} {r : Reply} → Happened e c r → is_state r.end.link.stage.state ErrorReset ≡ true →
      r.takes ≡ []
  down_takes_none (nothing c number time refused other) down = refl
  down_takes_none (event c this mid sent heard time tick_out is f) down = refl
  down_takes_none (a_put n time small room) down = refl
  down_takes_none (a_take time some) down =
      absurd
      (true≢false
      (sym down
      ∙ ap (λ (s : Stage). is_state s.state ErrorReset) (take_hosted e u.good some).same_stage
      ∙ u.is_up))
  down_takes_none (an_offer v time) down = refl
  down_takes_none (a_reset time) down = refl
