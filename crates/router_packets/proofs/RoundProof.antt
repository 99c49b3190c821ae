-- A run keeps a journal: each thing that can happen in a round does.
-- Assumes nothing.
use Rattle.std.specs.Prelude.{Some}
use mathlib.Core.Path.{◌≡◌, refl, sym, ap, subst, ◌∙◌}
use mathlib.Core.Bool.{false}
use mathlib.Core.List.{List, ◌∷◌, Memᴰ}
use Prim.Native.Nat.{ℕ, ◌/◌, ◌<◌}
use native.Mathlib.Omega.{arith}
use Rattle.store.specs.Ring.{waiting}
use Rattle.store.specs.Changes.{dropped}
use Rattle.router_ports.specs.Ports.{mode_at, output_at, store_at, input_store}
use Rattle.router_ports.specs.Places.{Machine, size_in, places_at, empty_at, front_at}
use Rattle.router_ports.specs.declared.Mode.{Mode}
use Rattle.router_ports.specs.declared.Mode.TheVariants.{Routed}
use Rattle.router_ports.specs.declared.Output.{Output}
use Rattle.router_ports.proofs.PortLaws.{ModeOk, OwnerOk}
use Rattle.router_rounds.specs.Grants.{waits_for}
use Rattle.router_rounds.specs.Rounds.{begun, rounds}
use Rattle.router_rounds.specs.Model.{Model, model}
use Rattle.router_rounds.specs.Exact.{exact}
use Rattle.router_rounds.proofs.SoundLaws.{free_owner, waits_below}
use Rattle.router_rounds.proofs.DeedLaws.{Shows, Deeds}
use Rattle.router_rounds.proofs.WalkLaws.{rounds_level}
use Rattle.router_rings.proofs.RingProof.{Lists, front_first}
use Rattle.router_rings.proofs.RunProof.{shows, deeds, routed_below}
use Rattle.router_packets.specs.Ledger.{Ledger}
use Rattle.router_packets.specs.Since.{Since}
use Rattle.router_packets.proofs.DeedProofs.{Owners, empties, strays, waits_on, spills, rests}
use Rattle.router_packets.proofs.MoveProofs.{grants, carries_on, closes}

owner_ok : (n : ℕ) (x : Machine) (y : Model) → Lists n x y → (o i : ℕ) → o < 11 → (y.outputs o).owner ≡ Some i →
    OwnerOk (mode_at x.router) o (Some i)
owner_ok n x y r o i k e =
    subst (OwnerOk (mode_at x.router) o) (ap (λ (out : Output). out.owner) (r.tied.outputs o) ∙ e)
    (r.sound.agree.owners o k)

pub lists_owners : (n : ℕ) (x : Machine) (y : Model) → Lists n x y → Owners y
lists_owners n x y r =
    record {
      routed = λ i o h e.
          let m : ModeOk (output_at x.router) i (Routed o) =
          subst (ModeOk (output_at x.router) i) (r.tied.modes i ∙ e) (r.sound.agree.inputs i h) in
          (m.0, ap (λ (out : Output). out.owner) (sym (r.tied.outputs o)) ∙ m.1);
      owned = λ o i k e. sym (r.tied.modes i) ∙ (owner_ok n x y r o i k e).1;
      inside = λ o i k e. (owner_ok n x y r o i k e).0;
    }

module _ (was : Model) (l : Ledger) (n : ℕ) (table : List ℕ) (stood : Memᴰ table l.lent) where
  -- rings and lists alike, with a journal
  pub record Told (x : Machine) (y : Model) : Type 0 where
    pub lists : Lists n x y
    pub since : Since was l y

  abbrev N : ℕ
  N = n / 22

  module _ (x : Machine) (y : Model) (r : Told x y) (i : ℕ) where
    abbrev c : ℕ
    c = front_at x (input_store i)

    abbrev rest : List ℕ
    rest = waiting (places_at x.area (input_store i)) (dropped (size_in x.area) (store_at x.router (input_store i)) 1)

    waits_there : i < 11 → empty_at x (input_store i) ≡ false → y.held (input_store i) ≡ c ∷ rest
    waits_there h some = front_first n x y r.lists (input_store i) (omega arith) some

    abbrev owners : Owners y
    owners = lists_owners n x y r.lists

    mode_there : (m : Mode) → exact.mode x i ≡ m → y.modes i ≡ m
    mode_there m e = sym (r.lists.tied.modes i) ∙ e

  told_shows : Shows exact (model N) Told table
  told_shows =
      let lists = shows n table in
      record {
        mode = λ x y r i. lists.mode x y r.lists i;
        output = λ x y r o. lists.output x y r.lists o;
        is_empty = λ x y r i h. lists.is_empty x y r.lists i h;
        is_full = λ x y r i o h e. lists.is_full x y r.lists i o h e;
        front = λ x y r i h some. lists.front x y r.lists i h some;
      }

  told_deeds : Deeds exact (model N) Told table
  told_deeds =
      let lists = deeds n table in
      record {
        empties = λ x y i r st e. record {
          lists = lists.empties x y i r.lists st e;
          since = empties was l N table stood y r.since (owners x y r i) i st.port (c x y r i) (rest x y r i)
              (waits_there x y r i st.port st.some) (mode_there x y r i _ st.mode) e;
        };
        strays = λ x y i r st e. record {
          lists = lists.strays x y i r.lists st e;
          since = strays was l N table stood y r.since (owners x y r i) i st.port (c x y r i) (rest x y r i)
              (waits_there x y r i st.port st.some) (mode_there x y r i _ st.mode) e;
        };
        waits = λ x y i d r st e. record {
          lists = lists.waits x y i d r.lists st e;
          since = waits_on was l N table stood y r.since (owners x y r i) i st.port (c x y r i) (rest x y r i)
              (waits_there x y r i st.port st.some) d (mode_there x y r i _ st.mode) e;
        };
        grants = λ x y o i r t.
            let h = waits_below x o i t.high t.wants in
            record {
              lists = lists.grants x y o i r.lists t;
              since = grants was l N table stood y r.since (owners x y r i) i h o t.port t.high
                  (ap (λ (out : Output). out.owner) (sym (r.lists.tied.outputs o)) ∙ free_owner _ t.free)
                  (ap (waits_for o t.high) (sym (r.lists.tied.modes i)) ∙ t.wants);
            };
        moves = λ x y i o r m.
            let st = m.stands in
            record {
              lists = lists.moves x y i o r.lists m;
              since = carries_on was l N table stood y r.since (owners x y r i) i st.port o
                  (routed_below n x r.lists.sound i o st.port st.mode) (c x y r i) (rest x y r i)
                  (waits_there x y r i st.port st.some) (mode_there x y r i _ st.mode) m.ends;
            };
        closes = λ x y i o r m.
            let st = m.stands in
            record {
              lists = lists.closes x y i o r.lists m;
              since = closes was l N table stood y r.since (owners x y r i) i st.port o
                  (routed_below n x r.lists.sound i o st.port st.mode) (c x y r i) (rest x y r i)
                  (waits_there x y r i st.port st.some) (mode_there x y r i _ st.mode) m.ends;
            };
        spills = λ x y i r st e. record {
          lists = lists.spills x y i r.lists st e;
          since = spills was l N table stood y r.since (owners x y r i) i st.port (c x y r i) (rest x y r i)
              (waits_there x y r i st.port st.some) (mode_there x y r i _ st.mode) e;
        };
        rests = λ x y i r st e. record {
          lists = lists.rests x y i r.lists st e;
          since = rests was l N table stood y r.since (owners x y r i) i st.port (c x y r i) (rest x y r i)
              (waits_there x y r i st.port st.some) (mode_there x y r i _ st.mode) e;
        };
      }

  pub run_told : (limit : ℕ) (x : Machine) (y : Model) → Told x y →
      Told (rounds exact table limit (begun x)).now (rounds (model N) table limit (begun y)).now
  unfolding begun
  run_told limit x y r =
      (rounds_level exact (model N) Told table told_shows told_deeds (record { rounds = 0; moved = 0; errors = 0 }) limit
      (begun x) (begun y) (record { now = r; rounds = refl; moved = refl; errors = refl })).now
