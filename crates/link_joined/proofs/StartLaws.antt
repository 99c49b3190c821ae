-- 64 ticks bring a fresh end to ErrorWait, and two such ends with empty wires keep all that is promised.
-- Assumes nothing.
use mathlib.Core.Path.{◌≡◌, refl, sym, ap, subst, ◌∙◌}
use mathlib.Core.Bool.{false, true≢false}
use mathlib.Core.List.{List, []}
use Prim.Native.Nat.{ℕ, zero, suc, ◌+◌, ◌<◌}
use native.Mathlib.Omega.{arith}
use borrow.Author.Tests.{lt-leb}
use Rattle.store.specs.Changes.{fresh_store}
use Rattle.store.proofs.RingLaws.{fresh_waits}
use Rattle.time.specs.Time.{fresh_time}
use Rattle.link.specs.Ends.{End, no_credit, fresh_link}
use Rattle.link.specs.Received.{counted}
use Rattle.link.specs.Recovery.{moves_to, settles}
use Rattle.link.specs.Calls.{answered, accepted, tick_outcome}
use Rattle.link.specs.declared.LinkState.{LinkState}
use Rattle.link.specs.declared.LinkState.TheVariants.{ErrorReset, ErrorWait}
use Rattle.link_laws.specs.Calls.{tick, replied, turned, end_after, fresh_end}
use Rattle.link_laws.specs.Cases.{turn, ticks}
use Rattle.link_laws.proofs.EndLaws.{Good, passes_good, good_passes}
use Rattle.link_laws.proofs.GoodEndProofs.{fresh_passes, all_good}
use Rattle.link_joined.specs.Pair.{Node, start}
use Rattle.link_joined.specs.Joined.{Allowed}
use Rattle.link_joined.proofs.UpLaws.{Up}
use Rattle.link_joined.proofs.FlowLaws.{unsent, Flow, flow_delivers}
use Rattle.link_joined.proofs.PairLaws.{Kept}

-- a fresh end, but for its state and its timer
abbrev fresh_in : List ℕ → List ℕ → LinkState → ℕ → End
fresh_in rx tx s timer =
    record {
      link =
          record {
            stage = record { state = s; timer = timer; gotnull = false; nullsent = false };
            controls = fresh_link.controls;
            credit = no_credit;
            marks = fresh_link.marks;
            offer = fresh_link.offer;
            rx = fresh_store;
            tx = fresh_store;
          };
      rx = rx;
      tx = tx;
    }

abbrev ticked_once : End → End
ticked_once e = (turned e (turn tick)).end

module _ (rx tx : List ℕ) (allowed : Allowed rx tx) where
  fresh_good : Good (fresh_end rx tx)
  fresh_good = passes_good (fresh_end rx tx) (fresh_passes rx tx allowed.receive allowed.transmit)

  reset_good : (timer : ℕ) → timer < 64 → Good (fresh_in rx tx ErrorReset timer)
  unfolding fresh_end fresh_link
  reset_good timer h =
      record { sound = fresh_good.sound; held_where = fresh_good.held_where; timer_below = h }

  tick_counts : (timer : ℕ) → timer < 63 → ticked_once (fresh_in rx tx ErrorReset timer) ≡ fresh_in rx tx ErrorReset (timer + 1)
  unfolding replied tick_outcome accepted answered settles moves_to counted
  tick_counts timer h =
      rw (
        good_passes (fresh_in rx tx ErrorReset timer) (reset_good timer (omega (arith, h))),
        lt-leb 64 (timer + 1) (omega (arith, h)),
      )

  last_tick : ticked_once (fresh_in rx tx ErrorReset 63) ≡ fresh_in rx tx ErrorWait 0
  unfolding replied tick_outcome accepted answered settles moves_to counted
  last_tick = rw (good_passes (fresh_in rx tx ErrorReset 63) (reset_good 63 (omega arith)))

  all_ticks : (count timer : ℕ) → count + timer ≡ 63 →
      end_after (fresh_in rx tx ErrorReset timer) (ticks (suc count)) ≡ fresh_in rx tx ErrorWait 0
  unfolding end_after
  all_ticks zero timer h =
      let last : timer ≡ 63 = omega (arith, h) in ap (λ (k : ℕ). ticked_once (fresh_in rx tx ErrorReset k)) last ∙ last_tick
  all_ticks (suc count) timer h =
      ap (λ (e : End). end_after e (ticks (suc count))) (tick_counts timer (omega (arith, h)))
      ∙ all_ticks count (timer + 1) (omega (arith, h))

  pub brought_to_wait : end_after (fresh_end rx tx) (ticks 64) ≡ fresh_in rx tx ErrorWait 0
  unfolding fresh_end fresh_link
  brought_to_wait = all_ticks 63 0 refl

  pub wait_up : Up (fresh_in rx tx ErrorWait 0)
  unfolding fresh_link
  wait_up =
      record {
        good = subst Good brought_to_wait (all_good (fresh_end rx tx) (ticks 64) fresh_good);
        is_up = refl;
        null_sent = λ late. absurd (true≢false (sym late));
        keeps_puts = refl;
      }

abbrev from_end : End → Node
from_end e =
    record {
      end = e;
      time = fresh_time;
      wire = [];
      counts = record { fcts = 0; nchars = 0; puts = []; takes = []; credit_error = false; full_store = false };
    }

start_flow : (rx tx rx' tx' : List ℕ) →
    Flow (from_end (fresh_in rx tx ErrorWait 0)) (from_end (fresh_in rx' tx' ErrorWait 0))
start_flow rx tx rx' tx' =
    record {
      sum = refl;
      count = refl;
      first = unsent refl refl;
      whole = tt;
      stream = rw (fresh_waits rx', fresh_waits tx);
    }

module _ (rx tx rx' tx' : List ℕ) (allowed : Allowed rx tx) (allowed' : Allowed rx' tx') where
  waits_kept : Kept
      (record { near = from_end (fresh_in rx tx ErrorWait 0); far = from_end (fresh_in rx' tx' ErrorWait 0) })
  unfolding fresh_time
  waits_kept =
      record {
        live = λ h k.
            record {
              near = wait_up rx tx allowed;
              far = wait_up rx' tx' allowed';
              near_clock = refl;
              far_clock = refl;
              there = start_flow rx tx rx' tx';
              back = start_flow rx' tx' rx tx;
            };
        near_unharmed = record { no_credit_error = refl; no_full_store = refl };
        far_unharmed = record { no_credit_error = refl; no_full_store = refl };
        delivers_there = flow_delivers (start_flow rx tx rx' tx');
        delivers_back = flow_delivers (start_flow rx' tx' rx tx);
      }

  pub start_kept : Kept (record { near = start rx tx; far = start rx' tx' })
  unfolding start
  start_kept = rw (brought_to_wait rx tx allowed, brought_to_wait rx' tx' allowed') waits_kept
