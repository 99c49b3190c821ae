-- From any moment on, over any calls, there is a journal; and from fresh it has every packet whole.
-- Assumes nothing.
use mathlib.Core.Path.{◌≡◌, refl, sym, ap, ◌∙◌}
use mathlib.Core.Bool.{false}
use mathlib.Core.List.Memᴰ
use mathlib.Core.List.{List, [], ◌∷◌, append-nil}
use Prim.Native.Nat.{ℕ, ◌<◌}
use native.Mathlib.Omega.{arith}
use lib.ListN.{length}
use Rattle.store.specs.Ring.{waiting}
use Rattle.store.proofs.RingLaws.{fresh_waits}
use Rattle.router_ports.specs.Ports.{fresh_router, input_store, output_store}
use Rattle.router_ports.specs.Places.{Machine, machine, places_at, bad_area}
use Rattle.router_ports.specs.declared.Mode.{Mode}
use Rattle.router_ports.specs.declared.Mode.TheVariants.{Idle, Waiting, Routed, Spilling}
use Rattle.router_ports.specs.declared.Output.{Output}
use Rattle.router_rounds.specs.Model.{Model}
use Rattle.router.specs.Reached.{Reached, fresh}
use Rattle.router.proofs.ReachedProof.{fresh_mode, fresh_output, fresh_store_lem}
use Rattle.router_rings.specs.Tied.{held_at, lists_of, Tied}
use Rattle.router_rings.proofs.RingProof.{Lists}
use Rattle.router_rings.proofs.TiedProof.{reached_sound}
use Rattle.router_packets.specs.Ledger.{Call, Ledger, opened, books, after}
use Rattle.router_packets.specs.Journal.{put_to, sent_to, InProgress}
use Rattle.router_packets.specs.Integrity.{Whole, PacketIntegrity}
use Rattle.router_packets.specs.Since.{Clear, Stage, since, before, Since, PacketsSince}
use Rattle.router_packets.proofs.InputLaws.{nothing, nothing_yet}
use Rattle.router_packets.proofs.DeedProofs.{Owners}
use Rattle.router_packets.proofs.RoundProof.{lists_owners}
use Rattle.router_packets.proofs.CallProofs.{Kept, call_kept}

pub self_tied : (x : Machine) → Tied x (lists_of x)
self_tied x = record { modes = λ i. refl; outputs = λ o. refl; held = λ k. refl }

-- at that moment: whoever is in a packet is still in it

module _ (x : Machine) (r : Reached x) where
  abbrev was : Model
  was = lists_of x

  start_lists : Lists (length x.area) x was
  start_lists = record { sound = reached_sound x r; tied = self_tied x }

  owners : Owners was
  owners = lists_owners (length x.area) x was start_lists

  start_stage : (i : ℕ) → i < 11 → (m : Mode) → was.modes i ≡ m → Stage was [] (was.held (input_store i)) nothing [] [] i m
  start_stage i h Idle e = since (λ f. refl) (nothing_yet [] (was.held (input_store i)))
  start_stage i h (Waiting w) e =
      before (λ f. let z : ◌≡◌ {A = ℕ} 0 1 = cc in omega arith) refl refl refl (λ o k clear. clear.unwanted i h w e)
  start_stage i h (Routed o) e =
      before (λ f. let z : ◌≡◌ {A = ℕ} 0 1 = cc in omega arith) refl refl refl
      (λ clear. let mine = (owners.routed i o h e).1 in let none = clear.free in let z : ◌≡◌ {A = ℕ} 0 1 = cc in omega arith)
  start_stage i h Spilling e =
      before (λ f. let z : ◌≡◌ {A = ℕ} 0 1 = cc in omega arith) refl refl refl tt

  start : Kept was (length x.area) (opened x)
  unfolding opened put_to sent_to
  start =
      record {
        lists = was;
        tied = start_lists;
        since =
            record {
              finished = [];
              parts = λ i. nothing;
              tails = λ i. [];
              journeys = λ p m. absurd (Memᴰ.not-nil m);
              inputs = λ i b. append-nil (was.held (input_store i));
              stages = λ i b. start_stage i b (was.modes i) refl;
              outputs = λ o b clear. rw clear.free (sym (append-nil (was.held (output_store o))));
            };
      }

  pub calls_kept : (l : Ledger) (calls : List Call) → Kept was (length x.area) l → Kept was (length x.area) (after l calls)
  unfolding after
  calls_kept l [] kept = kept
  calls_kept l (c ∷ calls) kept = calls_kept (books l c) calls (call_kept was (length x.area) l c kept)

-- what is true of lists is true of the lists that state and area stand for
tied_since : (was : Model) (l : Ledger) (x : Machine) (y : Model) → Tied x y → Since was l y → Since was l (lists_of x)
tied_since was l x y tied s =
    record {
      finished = s.finished;
      parts = s.parts;
      tails = s.tails;
      journeys = s.journeys;
      inputs = λ i b. rw (tied.held (input_store i)) (s.inputs i b);
      stages = λ i b. rw (tied.held (input_store i), tied.modes i) (s.stages i b);
      outputs = λ o b clear. rw (tied.held (output_store o), tied.outputs o) (s.outputs o b clear);
    }

pub packets_since : PacketsSince
packets_since x r calls =
    let kept = calls_kept x r (opened x) calls (start x r) in
    let l = after (opened x) calls in
    tied_since (lists_of x) l l.now kept.lists kept.tied.tied kept.since

-- after any calls, an owner is routed to its output, and a routed input owns it
pub reached_owners : (x : Machine) → Reached x → (calls : List Call) → Owners (lists_of (after (opened x) calls).now)
reached_owners x r calls =
    let kept = calls_kept x r (opened x) calls (start x r) in
    let now = (after (opened x) calls).now in
    lists_owners (length x.area) now (lists_of now) (record { sound = kept.tied.sound; tied = self_tied now })

-- from fresh nothing is held, and nobody is in a packet

module _ (area : List ℕ) (good : bad_area area ≡ false) where
  abbrev x₀ : Machine
  x₀ = machine fresh_router area

  fresh_held : (k : ℕ) → k < 22 → held_at x₀ k ≡ []
  fresh_held k h = ap (waiting (places_at area k)) (fresh_store_lem k h) ∙ fresh_waits (places_at area k)

  fresh_clear : (o : ℕ) → o < 11 → Clear (lists_of x₀) o
  fresh_clear o k =
      record {
        free = ap (λ (out : Output). out.owner) (fresh_output o k);
        unwanted = λ i h w e. let idle = fresh_mode i h in let z : ◌≡◌ {A = ℕ} 0 1 = cc in absurd (omega arith);
      }

  module _ (l : Ledger) (y : Model) (s : Since (lists_of x₀) l y) where
    record FromFresh (i : ℕ) : Type 0 where
      no_tail : s.tails i ≡ []
      progress : InProgress l.lent (y.held (input_store i)) (s.parts i) (y.modes i)

    from_fresh : (i : ℕ) → i < 11 → FromFresh i
    from_fresh i h = go (s.stages i h)
      where
        go : Stage (lists_of x₀) l.lent (y.held (input_store i)) (s.parts i) (put_to i s.finished) (s.tails i) i (y.modes i) →
            FromFresh i
        go (since clean p) = record { no_tail = clean (fresh_mode i h); progress = p }
        go (before busy none no_header no_cargo away) = absurd (busy (fresh_mode i h))

    all_whole : Whole l y
    all_whole =
        record {
          finished = s.finished;
          parts = s.parts;
          journeys = s.journeys;
          inputs = λ i h.
              (rw (fresh_held (input_store i) (omega arith), (from_fresh i h).no_tail) at (s.inputs i h));
          progress = λ i h. (from_fresh i h).progress;
          outputs = λ o k. rw (fresh_held (output_store o) (omega arith)) at (s.outputs o k (fresh_clear o k));
        }

pub packet_integrity : PacketIntegrity
packet_integrity area good calls =
    let l = after (opened (machine fresh_router area)) calls in
    all_whole area good l (lists_of l.now) (packets_since (machine fresh_router area) (fresh area good) calls)
