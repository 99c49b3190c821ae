-- The statement: every act of the near end keeps a pair, those of the far end by `swap`, and so does every run.
-- Assumes nothing.
use mathlib.Core.Path.{◌≡◌, refl}
use mathlib.Core.Bool.{Bool, true, false}
use mathlib.Core.List.{List, [], ◌∷◌}
use Rattle.vocabulary.specs.Choice.{pick}
use Rattle.vocabulary.specs.declared.Token.{Token}
use Rattle.link_laws.specs.Calls.{receive, token_in}
use Rattle.link_joined.specs.Pair.{Pair, swap, Act, receives, calls, Event, at_near, at_far, of_first, own_call, all_called}
use Rattle.link_joined.specs.Pair.{near_acts, after, is_over, run}
use Rattle.link_joined.specs.Joined.{Promise, AfterAnyRun, NoneRefused, TwoEndsJoined}
use Rattle.link_joined.proofs.PairLaws.{Live, live_swapped, Kept, kept_swapped, kept_live, kept_promise}
use Rattle.link_joined.proofs.PairLaws.{near_accepting, call_kept}
use Rattle.link_joined.proofs.StartLaws.{start_kept}
use Rattle.link_joined.proofs.ExampleProof.{carries}

act_kept : (a : Act) (p : Pair) → Kept p → Live p → Kept (near_acts a p)
unfolding near_acts
act_kept receives p kept live = go p.far.wire refl
  where
    go : (ts : List Token) → p.far.wire ≡ ts → Kept (all_called p (of_first ts))
    go [] h = kept
    go (t ∷ left) h = call_kept p kept live (receive t) left h
act_kept (calls c) p kept live = go (token_in c) refl
  where
    go : (ts : List Token) → token_in c ≡ ts → Kept (all_called p (own_call c ts))
    go [] h = call_kept p kept live c p.far.wire (rw h)
    go (t ∷ ts) h = kept

event_kept : (e : Event) (p : Pair) → Kept p → Live p → Kept (after e p)
event_kept (at_near a) p kept live = act_kept a p kept live
event_kept (at_far a) p kept live = kept_swapped (act_kept a (swap p) (kept_swapped kept) (live_swapped live))

run_kept : (p : Pair) (es : List Event) → Kept p → Kept (run p es)
unfolding run
run_kept p [] kept = kept
run_kept p (e ∷ es) kept = go (is_over p) refl (run_kept (after e p) es)
  where
    go : (b : Bool) → is_over p ≡ b → (Kept (after e p) → Kept (run (after e p) es)) → Kept (pick b p (run (after e p) es))
    go true over rest = kept
    go false on rest = rest (event_kept e p kept (kept_live kept on))

kept_accepts : {p : Pair} → Kept p → NoneRefused p
kept_accepts {p} kept =
    record {
      near_accepts = λ on. near_accepting p (kept_live kept on);
      far_accepts = λ on. near_accepting (swap p) (live_swapped (kept_live kept on));
    }

-- what is kept holds after any run
after_any_run : (Claim : Pair → Type 0) → ((p : Pair) → Kept p → Claim p) → AfterAnyRun Claim
after_any_run Claim claims rx tx rx' tx' allowed allowed' events =
    claims _ (run_kept _ events (start_kept rx tx rx' tx' allowed allowed'))

pub joined : TwoEndsJoined
joined =
    record {
      promised = after_any_run Promise (λ p kept. kept_promise kept);
      accepted = after_any_run NoneRefused (λ p kept. kept_accepts kept);
      carries = carries;
    }
