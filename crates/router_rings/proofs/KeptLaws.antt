-- A property that whatever happens to the ports keeps is kept by a run: one router beside itself.
-- Assumes nothing.
use mathlib.Core.Path.{◌≡◌, refl, ap}
use mathlib.Core.Bool.{true, false}
use mathlib.Core.List.{List}
use Prim.Native.Nat.{ℕ}
use native.Mathlib.Omega.{arith}
use Rattle.vocabulary.specs.NChars.{is_end}
use Rattle.router_table.specs.Headings.{heading}
use Rattle.router_table.specs.declared.Direction.{Direction}
use Rattle.router_table.specs.declared.Heading.TheVariants.{End, Nowhere, Ports}
use Rattle.router_ports.specs.Ports.{input_store, output_store}
use Rattle.router_ports.specs.declared.Mode.TheVariants.{Idle, Spilling}
use Rattle.router_rounds.specs.Acts.{Acts, Tally}
use Rattle.router_rounds.specs.Addresses.{waits}
use Rattle.router_rounds.specs.Moves.{frees, carries}
use Rattle.router_rounds.specs.Rounds.{begun, rounds}
use Rattle.router_rounds.proofs.DeedLaws.{Level}
use Rattle.router_rounds.proofs.DeedLaws.{front_in, grant, Stands, Moves, Taken, Shows, Deeds}
use Rattle.router_rounds.proofs.WalkLaws.{rounds_level}

module _ {X : Type 0} (M : Acts X) (P : X → Type 0) (table : List ℕ) where
  pub record Keeps : Type 0 where
    pub empties : (x : X) (i : ℕ) → P x → Stands M x i Idle → heading table (front_in M x i) ≡ End →
        P (M.drop_front x (input_store i))
    pub strays : (x : X) (i : ℕ) → P x → Stands M x i Idle → heading table (front_in M x i) ≡ Nowhere →
        P (M.set_mode x i Spilling)
    pub waits : (x : X) (i : ℕ) (d : Direction) → P x → Stands M x i Idle → heading table (front_in M x i) ≡ Ports d →
        P (waits M x i d)
    pub grants : (x : X) (o i : ℕ) → P x → Taken M x i o → P (grant M x o i)
    pub moves : (x : X) (i o : ℕ) → P x → Moves M x i o false → P (carries M x i o (front_in M x i))
    pub closes : (x : X) (i o : ℕ) → P x → Moves M x i o true → P (frees M (carries M x i o (front_in M x i)) i o)
    pub spills : (x : X) (i : ℕ) → P x → Stands M x i Spilling → is_end (front_in M x i) ≡ false →
        P (M.drop_front x (input_store i))
    pub rests : (x : X) (i : ℕ) → P x → Stands M x i Spilling → is_end (front_in M x i) ≡ true →
        P (M.set_mode (M.drop_front x (input_store i)) i Idle)

  -- a router that has the property, beside itself
  pub record Self (x y : X) : Type 0 where
    pub same : x ≡ y
    pub holds : P x

  goes : (f : X → X) (x y : X) → Self x y → (P x → P (f x)) → Self (f x) (f y)
  goes f x y r k = record { same = ap f r.same; holds = k r.holds }

  pub self_shows : Shows M M Self table
  self_shows =
      record {
        mode = λ x y r i. ap (λ (z : X). M.mode z i) r.same;
        output = λ x y r o. ap (λ (z : X). M.output z o) r.same;
        is_empty = λ x y r i h. ap (λ (z : X). M.is_empty z (input_store i)) r.same;
        is_full = λ x y r i o h e. ap (λ (z : X). M.is_full z (output_store o)) r.same;
        front = λ x y r i h some. ap (λ (z : X). M.front z (input_store i)) r.same;
      }

  pub self_deeds : Keeps → Deeds M M Self table
  self_deeds keeps =
      record {
        empties = λ x y i r s e. goes (λ z. M.drop_front z (input_store i)) x y r (λ p. keeps.empties x i p s e);
        strays = λ x y i r s e. goes (λ z. M.set_mode z i Spilling) x y r (λ p. keeps.strays x i p s e);
        waits = λ x y i d r s e. goes (λ z. waits M z i d) x y r (λ p. keeps.waits x i d p s e);
        grants = λ x y o i r t. goes (λ z. grant M z o i) x y r (λ p. keeps.grants x o i p t);
        moves = λ x y i o r m. goes (λ z. carries M z i o (front_in M x i)) x y r (λ p. keeps.moves x i o p m);
        closes = λ x y i o r m.
            goes (λ z. frees M (carries M z i o (front_in M x i)) i o) x y r (λ p. keeps.closes x i o p m);
        spills = λ x y i r s e. goes (λ z. M.drop_front z (input_store i)) x y r (λ p. keeps.spills x i p s e);
        rests = λ x y i r s e.
            goes (λ z. M.set_mode (M.drop_front z (input_store i)) i Idle) x y r (λ p. keeps.rests x i p s e);
      }

  -- the run goes on from a state in which it is begun anew, but for what was counted before
  pub begun_anew : (keeps : Keeps) (limit : ℕ) (t : Tally X) → P t.now →
      Level Self (record { rounds = t.rounds; moved = t.moved; errors = t.errors })
      (rounds M table limit t) (rounds M table limit (begun t.now))
  unfolding begun
  begun_anew keeps limit t p =
      rounds_level M M Self table self_shows (self_deeds keeps) _ limit t (begun t.now)
      (record {
        now = record { same = refl; holds = p };
        rounds = omega arith;
        moved = omega arith;
        errors = omega arith;
      })

  pub run_keeps : (keeps : Keeps) (limit : ℕ) (x : X) → P x → P (rounds M table limit (begun x)).now
  unfolding begun
  run_keeps keeps limit x p = (begun_anew keeps limit (begun x) p).now.holds
