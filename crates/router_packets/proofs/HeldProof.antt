-- A port through which nothing is held is one that nothing is bound for, and its own input is in no packet.
-- Assumes nothing.
use mathlib.Core.Path.{◌≡◌, refl, sym, ap, subst, ◌∙◌}
use mathlib.Core.Bool.{Bool, true, false, false≢true}
use mathlib.Core.List.{List, [], ◌∷◌}
use Prim.Native.Nat.{ℕ, ◌<◌}
use native.Mathlib.Omega.{arith}
use lib.Dec.{eqb}
use borrow.Author.Tests.{eqb-true, ltb-false, le-leb}
use Rattle.vocabulary.specs.Choice.{pick}
use Rattle.vocabulary.specs.Refusals.{STATE, PORT, Test, test}
use Rattle.vocabulary.proofs.RefusalLaws.{passed, passed_later}
use Rattle.store.proofs.RingLaws.{empty_waits}
use Rattle.router_ports.specs.Ports.{store_at, input_store, output_store}
use Rattle.router_ports.specs.Places.{Machine, places_at}
use Rattle.router_ports.specs.Refusals.{bad_ports}
use Rattle.router_ports.specs.Records.{Router}
use Rattle.router_ports.specs.declared.Mode.TheVariants.{Routed}
use Rattle.router_rounds.specs.Model.{Model}
use Rattle.router.specs.Refusals.{no_port, held_refusal}
use Rattle.router.specs.Held.{awaits, still_held, held_through, held_refused, NothingHeld, NothingUnread}
use Rattle.router.proofs.HeldProof.{held_says}
use Rattle.router_rings.specs.Tied.{held_at, lists_of}
use Rattle.router_packets.specs.Ledger.{Ledger, opened, after}
use Rattle.router_packets.specs.Journal.{put_to, InProgress}
use Rattle.router_packets.specs.Since.{Clear, Apart, Stage, since, before, Since}
use Rattle.router_packets.specs.NothingHeld.{PutSince, NothingHeldMeans, NothingHeldIsClear}
use Rattle.router_packets.proofs.DeedProofs.{Owners}
use Rattle.router_packets.proofs.SinceProof.{packets_since, reached_owners}

-- an answer that says nothing is held was not refused
accepted : (s : Router) (port : ℕ) → (still_held s port).nothing ≡ true → held_refusal s port ≡ 0
unfolding still_held held_refused
accepted s port e = go (eqb (held_refusal s port) 0) refl e
  where
    go : (b : Bool) → eqb (held_refusal s port) 0 ≡ b →
        (pick b (held_through s port) (held_refused (held_refusal s port))).nothing ≡ true → held_refusal s port ≡ 0
    go true f g = eqb-true (held_refusal s port) 0 f
    go false f g = absurd (false≢true g)

port_below : (s : Router) (port : ℕ) → held_refusal s port ≡ 0 → port < 11
port_below s port e =
    let rest : List Test = test PORT (no_port port) ∷ [] in
    let within = ltb-false 10 port (passed PORT (no_port port) [] (passed_later STATE (bad_ports s) rest e)) in
    omega (arith, within)

none_waits : (x : Machine) (k : ℕ) → (store_at x.router k).len ≡ 0 → held_at x k ≡ []
none_waits x k e =
    empty_waits (places_at x.area k) (store_at x.router k) (le-leb (store_at x.router k).len 0 (omega (arith, e)))

pub nothing_held_is_clear : NothingHeldIsClear
nothing_held_is_clear x port e =
    let none = (held_says.nothing_held_lem x.router port e).1 in
    record {
      free = none.owner;
      unwanted = λ i h w f. ap (awaits port) (sym f) ∙ none.unwanted i h;
    }

module _ (x : Machine) (port : ℕ) (said : (still_held x.router port).nothing ≡ true)
    (read : (still_held x.router port).unread ≡ 0) where
  abbrev was : Model
  was = lists_of x

  below : port < 11
  below = port_below x.router port (accepted x.router port said)

  none : NothingHeld x.router port
  none = (held_says.nothing_held_lem x.router port said).1

  unwaiting : NothingUnread x.router
  unwaiting = held_says.nothing_unread x.router port (held_says.nothing_held_lem x.router port said).0 read

  clear : Clear was port
  clear = nothing_held_is_clear x port said

  module _ (l : Ledger) (y : Model) (s : Since was l y) (owners : Owners y) where
    abbrev St : ℕ → Type 0
    St i = Stage was l.lent (y.held (input_store i)) (s.parts i) (put_to i s.finished) (s.tails i) i (y.modes i)

    own_tail : St port → s.tails port ≡ []
    own_tail (since clean p) = clean none.mode
    own_tail (before busy past no_header no_cargo away) = absurd (busy none.mode)

    by_owner : (i : ℕ) → i < 11 → y.modes i ≡ Routed port → St i →
        InProgress l.lent (y.held (input_store i)) (s.parts i) (Routed port)
    by_owner i h e (since clean p) = rw e at p
    by_owner i h e (before busy past no_header no_cargo away) = absurd (subst (Apart was) e away clear)

    put_since : PutSince port l y
    put_since =
        record {
          finished = s.finished;
          parts = s.parts;
          tails = s.tails;
          journeys = s.journeys;
          put = λ i h. rw (none_waits x (input_store i) (unwaiting.empty i h)) at (s.inputs i h);
          moved = own_tail (s.stages port below);
          left = rw (none_waits x (output_store port) none.untaken) at (s.outputs port below clear);
          owner = λ i e.
              let routed = owners.owned port i below e in
              by_owner i (owners.inside port i below e) routed (s.stages i (owners.inside port i below e));
        }

pub nothing_held_means : NothingHeldMeans
nothing_held_means x r port said read calls =
    let l = after (opened x) calls in
    put_since x port said read l (lists_of l.now) (packets_since x r calls) (reached_owners x r calls)
