-- An end that our calls left is never refused as STATE: what STATE and STORE test is kept by every call, and the tests
-- that are left are those of other refusals.
-- Assumes nothing.
use mathlib.Core.Path.{◌≡◌, refl}
use mathlib.Core.Bool.{false}
use mathlib.Core.List.{List, [], ◌∷◌}
use Prim.Native.Nat.{ℕ, ◌<◌}
use native.Mathlib.Omega.{arith}
use lib.Dec.{ltb}
use lib.ListN.{length}
use borrow.Author.Tests.{ltb-false}
use Rattle.vocabulary.specs.Refusals.{number}
use Rattle.store.proofs.OrLaws.{or_left}
use Rattle.store.proofs.RingLaws.{fresh_good}
use Rattle.time.specs.Time.{fresh_time, bad_time}
use Rattle.link.specs.Ends.{End, fresh_link}
use Rattle.link.specs.Refusals.{bad_rx_size, bad_tx_size}
use Rattle.link.specs.Calls.{refused}
use Rattle.link_laws.specs.Calls.{Reply, Call, Turn}
use Rattle.link_laws.specs.Calls.{turned, end_after}
use Rattle.link_laws.specs.Calls.{fresh_end}
use Rattle.link_laws.specs.GoodEnds.{Passes, NeverState}
use Rattle.link_laws.proofs.EndLaws.{Good, passes_good}
use Rattle.link_laws.proofs.EndLaws.{good_passes}
use Rattle.link_laws.proofs.RefusalLaws.{Other, other_none}
use Rattle.link_laws.proofs.WalkLaws.{Happened, nothing, event, a_put, a_take, an_offer, a_reset, happened}
use Rattle.link_laws.proofs.CallLaws.{accounts}
use Rattle.link_laws.proofs.TimeLaws.{time_good}

pub fresh_passes : (rx tx : List ℕ) → bad_rx_size (length rx) ≡ false → bad_tx_size (length tx) ≡ false → Passes (fresh_end rx tx)
unfolding fresh_end fresh_link
fresh_passes rx tx r t =
    let some_rx : 0 < length rx = omega (arith, ltb-false (length rx) 9 (or_left _ (ltb 4096 (length rx)) r)) in
    let some_tx : 0 < length tx = ltb-false (length tx) 1 (or_left _ (ltb 4096 (length tx)) t) in
    rw (r, t, fresh_good (length rx) some_rx, fresh_good (length tx) some_tx)

pub all_good : (e : End) (ts : List Turn) → Good e → Good (end_after e ts)
unfolding end_after
all_good e [] g = g
all_good e (t ∷ ts) g = all_good (turned e t).end ts (accounts e g t.time t.call).good

-- no call on a good end is refused as either
other : {e : End} {c : Call} {r : Reply} → Happened e c r → bad_time r.time ≡ false → Other r.refusal
other (nothing c number time h refused) clock = refused clock
other (event c this mid sent heard time tick_out is f) clock = other_none
other (a_put n time small room) clock = other_none
other (a_take time some) clock = other_none
other (an_offer v time) clock = other_none
other (a_reset time) clock = other_none

module _ (e : End) (t : Turn) (passes : Passes e) (good : bad_time t.time ≡ false) where
  neither : Other (turned e t).refusal
  neither = other (happened e (passes_good e passes) t.time t.call) (time_good t.time good e t.call)

pub never_state : NeverState
never_state =
    record {
      fresh = fresh_passes;
      fresh_time_lem = unfold fresh_time in refl;
      left = λ e ts passes. good_passes (end_after e ts) (all_good e ts (passes_good e passes));
      left_time = λ e t good. time_good t.time good e t.call;
      never_state = λ e t passes good. (neither e t passes good).0;
      never_store = λ e t passes good. (neither e t passes good).1;
    }
