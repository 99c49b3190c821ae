-- What a part of a round has done is what its ports' deeds are together: so many counts behind those of any run so far.
-- Assumes nothing.
use mathlib.Core.Path.{◌≡◌, refl, sym, ap, ◌∙◌}
use mathlib.Core.Bool.{Bool}
use Prim.Native.Nat.{ℕ, ◌+◌, ◌-◌, ◌≤◌, ◌<◌}
use native.Mathlib.Omega.{arith}
use Rattle.router_ports.specs.Each.{each}
use Rattle.router_ports.proofs.EachLaws.{each_next, each_done, or_true, or_false, or_joins}
use Rattle.router_rounds.specs.Acts.{Tally}
use Rattle.router_rounds.specs.InWords.{Words, tally, uncounted, counted, added}
use Rattle.router_rounds.specs.declared.Totals.{Totals}
use Rattle.router_rounds.proofs.CountLaws.{Adds}
use Rattle.router_rounds.specs.declared.counts.Deed.{Deed}
use Rattle.router_rounds.specs.declared.counts.Deed.TheVariants.{Nothing, Change, AddressError, Move}

totals_are : (r m e r' m' e' : ℕ) (b b' : Bool) → r ≡ r' → m ≡ m' → e ≡ e' → b ≡ b' →
    ◌≡◌ {A = Totals} (record { rounds = r; moved = m; errors = e; changed = b }) (record { rounds = r'; moved = m'; errors = e'; changed = b' })
totals_are r m e r' m' e' b b' p q s t = cc

pub added_none : (c : Totals) → added c uncounted ≡ c
added_none c = totals_are _ _ _ _ _ _ _ _ (omega arith) (omega arith) (omega arith) (or_false c.changed)

pub added_joins : (c d e : Totals) → added c (added d e) ≡ added (added c d) e
added_joins c d e = totals_are _ _ _ _ _ _ _ _ (omega arith) (omega arith) (omega arith) (or_joins c.changed d.changed e.changed)

added_counted : (c d : Totals) (deed : Deed) → added c (counted d deed) ≡ counted (added c d) deed
added_counted c d Nothing = refl
added_counted c d Change = totals_are _ _ _ _ _ _ _ _ refl refl refl (or_true c.changed)
added_counted c d AddressError = totals_are _ _ _ _ _ _ _ _ refl refl (omega arith) (or_true c.changed)
added_counted c d Move = totals_are _ _ _ _ _ _ _ _ refl (omega arith) refl (or_true c.changed)

counts_one : (d : Totals) (deed : Deed) (i : ℕ) → d.moved ≤ i → d.errors ≤ i →
    ((counted d deed).moved ≤ i + 1) × ((counted d deed).errors ≤ i + 1)
counts_one d Nothing i m e = (omega arith, omega arith)
counts_one d Change i m e = (omega arith, omega arith)
counts_one d AddressError i m e = (omega arith, omega arith)
counts_one d Move i m e = (omega arith, omega arith)

-- what is done adds no more than the part does
pub few_done : (f : Tally Words → Tally Words) (k : ℕ) (before now : Words) (d : Totals) → ((t : Tally Words) → Adds k t (f t)) →
    ((c : Totals) → tally (added c d) now ≡ f (tally c before)) → (d.rounds ≡ 0) × (d.moved ≤ k) × (d.errors ≤ k)
few_done f k before now d a e =
    let t = tally uncounted before in
    let s = e uncounted in (
      omega (arith, (a t).rounds, ap (λ (u : Tally Words). u.rounds) s),
      omega (arith, (a t).moved, ap (λ (u : Tally Words). u.moved) s),
      omega (arith, (a t).errors, ap (λ (u : Tally Words). u.errors) s),
    )

-- two parts, one behind the other
pub both_parts : (f g : Tally Words → Tally Words) (v w x : Words) (d e : Totals) →
    ((c : Totals) → tally (added c d) w ≡ f (tally c v)) → ((c : Totals) → tally (added c e) x ≡ g (tally c w)) →
    (c : Totals) → tally (added c (added d e)) x ≡ g (f (tally c v))
both_parts f g v w x d e p q c =
    ap (λ (k : Totals). tally k x) (added_joins c d e) ∙ q (added c d) ∙ ap g (p c)

-- the ports below `i` were served: what is left of the part, done to the words as they are, is the part
module _ (f : Tally Words → ℕ → Tally Words) (before : Words) where
  pub record Served (i : ℕ) (done : Totals) (now : Words) : Type 0 where
    pub moved : done.moved ≤ i
    pub errors : done.errors ≤ i
    pub left : (c : Totals) → each f 0 11 (tally c before) ≡ each f i (11 - i) (tally (added c done) now)

  pub none_served : Served 0 uncounted before
  none_served =
      record {
        moved = omega arith;
        errors = omega arith;
        left = λ c. ap (λ (k : Totals). each f 0 11 (tally k before)) (sym (added_none c));
      }

  pub one_served : (i : ℕ) (done more : Totals) (now next : Words) (deed : Deed) → i < 11 → Served i done now →
      more ≡ counted done deed → ((c : Totals) → tally (counted c deed) next ≡ f (tally c now) i) → Served (i + 1) more next
  one_served i done more now next deed h s q e =
      let few = counts_one done deed i s.moved s.errors in
      rw q (
      record {
        moved = few.0;
        errors = few.1;
        left =
            λ c.
            s.left c
            ∙ each_next f i 11 (tally (added c done) now) h
            ∙ ap (each f (i + 1) (11 - (i + 1)))
            (sym (ap (λ (k : Totals). tally k next) (added_counted c done deed) ∙ e (added c done)));
      }
      )

  pub all_served : (i : ℕ) (done : Totals) (now : Words) → 11 ≤ i → Served i done now →
      (c : Totals) → tally (added c done) now ≡ each f 0 11 (tally c before)
  all_served i done now h s c = sym (s.left c ∙ each_done f i 11 (tally (added c done) now) h)
