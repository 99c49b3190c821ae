-- Every call on a good end, refused or not, leaves a good one and accounts for what it did to the stores.
-- Assumes nothing.
use mathlib.Core.Path.{refl}
use mathlib.Core.Bool.{not-and_self}
use Rattle.time.specs.declared.Time.{Time}
use Rattle.link.specs.Ends.{End}
use Rattle.link.specs.Moves.{is_state}
use Rattle.link.specs.Reset.{resets}
use Rattle.link.specs.declared.LinkState.TheVariants.{ErrorReset}
use Rattle.link_laws.specs.Tokens.{n_chars_on, tokens_of}
use Rattle.link_laws.specs.Calls.{Call, Reply, if_accepted, reply}
use Rattle.link_laws.specs.NothingLost.{storing, emptying}
use Rattle.link_laws.proofs.EndLaws.{Good}
use Rattle.link_laws.proofs.ChangeLaws.{Traffic, Changes, still}
use Rattle.link_laws.proofs.EffectLaws.{effect_settles}
use Rattle.link_laws.proofs.HostLaws.{offer_hosted, take_hosted, hosted_change, put_stage, put_change, reset_change}
use Rattle.link_laws.proofs.WalkLaws.{event_heard, event_no_reset, Happened, nothing, event, a_put, a_take}
use Rattle.link_laws.proofs.WalkLaws.{an_offer, a_reset, happened}

-- what a reply to a call says of the stores
abbrev pub traffic_of : End → Call → Reply → Traffic
traffic_of e c r =
    record {
      puts = r.puts;
      sends = n_chars_on (tokens_of r.sent);
      discards = r.discarded;
      stores = if_accepted r.refusal (storing e r.end c);
      takes = r.takes;
      empties = if_accepted r.refusal (emptying e c);
    }

abbrev pub Accounts : End → Call → Reply → Type 0
Accounts e c r = Changes e r.end (traffic_of e c r)

module _ (e : End) (g : Good e) where
  -- what the host does never moves the state, and so stores nothing
  accounts_for : {c : Call} {r : Reply} → Happened e c r → Accounts e c r
  unfolding resets
  accounts_for (nothing c number time h other) = rw h (record { good = g; same_size = refl; change = still })
  accounts_for (event c this mid sent heard time tick_out is f) = rw (event_no_reset is, event_heard is) (effect_settles f)
  accounts_for (a_put n time small room) =
      rw (put_stage e n, not-and_self (is_state e.link.stage.state ErrorReset)) (put_change e g n small room)
  accounts_for (a_take time some) =
      rw (not-and_self (is_state e.link.stage.state ErrorReset)) (hosted_change e g (take_hosted e g some) (λ w. w))
  accounts_for (an_offer v time) =
      rw (not-and_self (is_state e.link.stage.state ErrorReset)) (hosted_change e g (offer_hosted e g v) (λ w. w))
  accounts_for (a_reset time) = reset_change e g

  pub accounts : (time : Time) (c : Call) → Accounts e c (reply e time c)
  accounts time c = accounts_for (happened e g time c)
