-- Inputs and outputs that agree: a routed input owns its output, an owner is routed to it. What can happen to a port keeps
-- it. Stated over what each input does and how each output stands, so that it holds of any way to keep them.
-- Assumes nothing.
use Rattle.std.specs.Prelude.{Option, None, Some}
use mathlib.Core.Path.{◌≡◌, refl, ap, subst, ◌∙◌}
use mathlib.Core.Bool.{false}
use Prim.Native.Nat.{ℕ, ◌<◌}
use native.Mathlib.Decide.{ℕ_discrete}
use native.Mathlib.Omega.{arith}
use Rattle.router_ports.specs.Refusals.{bad_wanted}
use Rattle.router_ports.specs.declared.Mode.{Mode}
use Rattle.router_ports.specs.declared.Mode.TheVariants.{Idle, Waiting, Routed, Spilling}
use Rattle.router_ports.specs.declared.Output.{Output}

abbrev pub ModeOk : (ℕ → Output) → ℕ → Mode → Type 0
ModeOk outs i Idle = Unit {0}
ModeOk outs i (Waiting w) = bad_wanted w ≡ false
ModeOk outs i (Routed o) = (o < 11) × ((outs o).owner ≡ Some i)
ModeOk outs i Spilling = Unit {0}

abbrev pub OwnerOk : (ℕ → Mode) → ℕ → Option ℕ → Type 0
OwnerOk modes o None = Unit {0}
OwnerOk modes o (Some i) = (i < 11) × (modes i ≡ Routed o)

pub record Agree (modes : ℕ → Mode) (outs : ℕ → Output) : Type 0 where
  pub inputs : (i : ℕ) → i < 11 → ModeOk outs i (modes i)
  pub owners : (o : ℕ) → o < 11 → OwnerOk modes o (outs o).owner
  pub lasts : (o : ℕ) → o < 11 → (outs o).last < 11

abbrev pub Unrouted : Mode → Type 0
Unrouted m = (o : ℕ) → m ≡ Routed o → ⊥

-- carried over where what they name has not changed

mode_moved : (outs outs' : ℕ → Output) (i : ℕ) (m : Mode) →
    ((o : ℕ) → m ≡ Routed o → (outs o).owner ≡ Some i → (outs' o).owner ≡ (outs o).owner) → ModeOk outs i m → ModeOk outs' i m
mode_moved outs outs' i Idle same ok = ok
mode_moved outs outs' i (Waiting w) same ok = ok
mode_moved outs outs' i (Routed o) same ok = (ok.0, same o refl ok.1 ∙ ok.1)
mode_moved outs outs' i Spilling same ok = ok

owner_moved : (modes modes' : ℕ → Mode) (o : ℕ) (w : Option ℕ) →
    ((i : ℕ) → modes i ≡ Routed o → modes' i ≡ modes i) → OwnerOk modes o w → OwnerOk modes' o w
owner_moved modes modes' o None same ok = ok
owner_moved modes modes' o (Some i) same ok = (ok.0, same i ok.1 ∙ ok.1)

-- one input changed: from `modes` to `modes'`, which differ at i alone
pub record OneInput (modes modes' : ℕ → Mode) (i : ℕ) (m : Mode) : Type 0 where
  pub new : modes' i ≡ m
  pub others : (j : ℕ) → (j ≡ i → ⊥) → modes' j ≡ modes j

pub record OneOutput (outs outs' : ℕ → Output) (o : ℕ) (out : Output) : Type 0 where
  pub new : outs' o ≡ out
  pub others : (p : ℕ) → (p ≡ o → ⊥) → outs' p ≡ outs p

module _ (modes modes' : ℕ → Mode) (outs outs' : ℕ → Output) (i : ℕ) (agree : Agree modes outs) where
  -- an input that is not routed does something else that is no route
  pub unrouted_agrees : (m : Mode) → OneInput modes modes' i m → ((o : ℕ) → outs' o ≡ outs o) →
      Unrouted (modes i) → ModeOk outs' i m → Agree modes' outs'
  unrouted_agrees m one same free ok =
      record {
        inputs = λ j h. input j h (ℕ_discrete j i);
        owners = λ o h.
            rw (same o) (owner_moved modes modes' o (outs o).owner (λ j e. one.others j (λ k. free o (rw k at e))) (agree.owners o h));
        lasts = λ o h. rw (same o) (agree.lasts o h);
      }
    where
      input : (j : ℕ) → j < 11 → Dec (j ≡ i) → ModeOk outs' j (modes' j)
      input j h (yes e) = rw (e, one.new) ok
      input j h (no d) =
          rw (one.others j d)
          (mode_moved outs outs' j (modes j) (λ o r w. ap (λ (t : Output). t.owner) (same o)) (agree.inputs j h))

  module _ (o : ℕ) (h : o < 11) where
    -- a free output takes an input that is not routed
    pub taken_agrees : OneInput modes modes' i (Routed o) → OneOutput outs outs' o (record { owner = Some i; last = i }) →
        i < 11 → Unrouted (modes i) → (outs o).owner ≡ None → Agree modes' outs'
    taken_agrees one out b free none =
        record {
          inputs = λ j k. input j k (ℕ_discrete j i);
          owners = λ p k. owner p k (ℕ_discrete p o);
          lasts = λ p k. last p k (ℕ_discrete p o);
        }
      where
        input : (j : ℕ) → j < 11 → Dec (j ≡ i) → ModeOk outs' j (modes' j)
        input j k (yes e) = rw (e, one.new) (h, ap (λ (t : Output). t.owner) out.new)
        input j k (no d) =
            rw (one.others j d)
            (mode_moved outs outs' j (modes j)
            (λ p r w. ap (λ (t : Output). t.owner)
            (out.others p (λ e. let z : ◌≡◌ {A = ℕ} 0 1 = cc (ap (λ (q : ℕ). (outs q).owner) e) in omega arith)))
            (agree.inputs j k))

        owner : (p : ℕ) → p < 11 → Dec (p ≡ o) → OwnerOk modes' p (outs' p).owner
        owner p k (yes e) = rw (e, out.new) (b, one.new)
        owner p k (no d) =
            rw (out.others p d)
            (owner_moved modes modes' p (outs p).owner (λ j e. one.others j (λ q. free p (rw q at e))) (agree.owners p k))

        last : (p : ℕ) → p < 11 → Dec (p ≡ o) → (outs' p).last < 11
        last p k (yes e) = rw (e, out.new) b
        last p k (no d) = rw (out.others p d) (agree.lasts p k)

    -- an end frees both
    pub freed_agrees : OneInput modes modes' i Idle →
        OneOutput outs outs' o (record { owner = None; last = (outs o).last }) → i < 11 → modes i ≡ Routed o →
        Agree modes' outs'
    freed_agrees one out b routed =
        record {
          inputs = λ j k. input j k (ℕ_discrete j i);
          owners = λ p k. owner p k (ℕ_discrete p o);
          lasts = λ p k. last p k (ℕ_discrete p o);
        }
      where
        mine : (outs o).owner ≡ Some i
        mine = (subst (ModeOk outs i) routed (agree.inputs i b)).1

        input : (j : ℕ) → j < 11 → Dec (j ≡ i) → ModeOk outs' j (modes' j)
        input j k (yes e) = rw (e, one.new) tt
        input j k (no d) =
            rw (one.others j d)
            (mode_moved outs outs' j (modes j)
            (λ p r w. ap (λ (t : Output). t.owner)
            (out.others p (λ e. d (cc (ap (λ (q : ℕ). (outs q).owner) e, mine)))))
            (agree.inputs j k))

        owner : (p : ℕ) → p < 11 → Dec (p ≡ o) → OwnerOk modes' p (outs' p).owner
        owner p k (yes e) = rw (e, out.new) tt
        owner p k (no d) =
            rw (out.others p d)
            (owner_moved modes modes' p (outs p).owner
            (λ j e. one.others j (λ q. d (cc (ap modes q))))
            (agree.owners p k))

        last : (p : ℕ) → p < 11 → Dec (p ≡ o) → (outs' p).last < 11
        last p k (yes e) = rw (e, out.new) (agree.lasts o h)
        last p k (no d) = rw (out.others p d) (agree.lasts p k)
