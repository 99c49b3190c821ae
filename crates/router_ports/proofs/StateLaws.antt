-- The state of a router whose ports agree and whose stores fit their places is not refused as STATE, and the changes to a
-- mode, an output and a store touch nothing else.
-- Assumes nothing.
use Rattle.std.specs.Prelude.{Option, None, Some}
use mathlib.Core.Path.{◌≡◌, refl, ◌∙◌}
use mathlib.Core.Bool.{Bool, true, false}
use Prim.Native.Nat.{ℕ, zero, suc, ◌+◌, ◌*◌, ◌≤◌, ◌<◌}
use native.Mathlib.Decide.{ℕ_discrete}
use native.Mathlib.Omega.{arith}
use lib.Dec.{ltb}
use lib.ListN.{length, set, length-set}
use lib.Seq.{get_or-set_same, get_or-set_other}
use borrow.Author.Tests.{lt-ltb, le-ltb, ltb-true, eq-eqb}
use borrow.Rule.Slice.PartMut.{same_len_mid}
use Rattle.vocabulary.specs.Choice.{pick}
use Rattle.store.specs.Ring.{bad_store}
use Rattle.store.specs.Changes.{fresh_store, put_store, put_places, without_first}
use Rattle.store.specs.declared.Store.{Store}
use Rattle.store.proofs.RingLaws.{put_good, drop_good, put_keeps_length}
use Rattle.router_ports.specs.Each.{any}
use Rattle.router_ports.specs.Ports.{idle, no_output, mode_at, output_at, store_at, with_mode, with_output, with_store}
use Rattle.router_ports.specs.Places.{Machine, size_in, places_at, with_places, without_front, with_behind}
use Rattle.router_ports.specs.Refusals.{bad_mode, bad_owner, bad_port, bad_ports, bad_stores}
use Rattle.router_ports.specs.declared.Mode.{Mode}
use Rattle.router_ports.specs.declared.Mode.TheVariants.{Idle, Waiting, Routed, Spilling}
use Rattle.router_ports.specs.declared.Output.{Output}
use Rattle.router_ports.specs.Records.{Router}
use Rattle.router_ports.proofs.PlaceLaws.{places_length}
use Rattle.router_ports.proofs.PortLaws.{ModeOk, OwnerOk, Agree, OneInput, OneOutput}

-- as many inputs, outputs and stores as there are: so it is in every value of the type
pub record Shape (s : Router) : Type 0 where
  pub inputs : length s.inputs ≡ 11
  pub outputs : length s.outputs ≡ 11
  pub stores : length s.stores ≡ 22

-- every store's record fits its places
pub record StoresFit (size : ℕ) (s : Router) : Type 0 where
  pub fit : (k : ℕ) → k < 22 → bad_store size (store_at s k) ≡ false

-- one change touches one thing

module _ (s : Router) (shape : Shape s) where
  module _ (i : ℕ) (m : Mode) (h : i < 11) where
    pub mode_changed : OneInput (mode_at s) (mode_at (with_mode s i m)) i m
    unfolding with_mode
    mode_changed =
        record {
          new = rw (lt-ltb i 11 h, get_or-set_same s.inputs i (record { mode = m }) idle (omega (arith, shape.inputs)));
          others = λ j d. rw (lt-ltb i 11 h, get_or-set_other s.inputs i j (record { mode = m }) idle d);
        }

    pub mode_keeps_outputs : (o : ℕ) → output_at (with_mode s i m) o ≡ output_at s o
    unfolding with_mode
    mode_keeps_outputs o = rw (lt-ltb i 11 h)

    pub mode_shape : Shape (with_mode s i m)
    unfolding with_mode
    mode_shape =
        rw (lt-ltb i 11 h)
        (record {
          inputs = length-set s.inputs i (record { mode = m }) ∙ shape.inputs;
          outputs = shape.outputs;
          stores = shape.stores;
        })

    pub mode_fits : (size : ℕ) → StoresFit size s → StoresFit size (with_mode s i m)
    unfolding with_mode
    mode_fits size fits = rw (lt-ltb i 11 h) (record { fit = fits.fit })

  module _ (o : ℕ) (out : Output) (h : o < 11) where
    pub output_fits : (size : ℕ) → StoresFit size s → StoresFit size (with_output s o out)
    unfolding with_output
    output_fits size fits = rw (lt-ltb o 11 h) (record { fit = fits.fit })

    pub output_changed : OneOutput (output_at s) (output_at (with_output s o out)) o out
    unfolding with_output
    output_changed =
        record {
          new = rw (lt-ltb o 11 h, get_or-set_same s.outputs o out no_output (omega (arith, shape.outputs)));
          others = λ p d. rw (lt-ltb o 11 h, get_or-set_other s.outputs o p out no_output d);
        }

    pub output_keeps_modes : (i : ℕ) → mode_at (with_output s o out) i ≡ mode_at s i
    unfolding with_output
    output_keeps_modes i = rw (lt-ltb o 11 h)

    pub output_shape : Shape (with_output s o out)
    unfolding with_output
    output_shape =
        rw (lt-ltb o 11 h)
        (record {
          inputs = shape.inputs;
          outputs = length-set s.outputs o out ∙ shape.outputs;
          stores = shape.stores;
        })

-- stores

module _ (size : ℕ) (s : Router) (shape : Shape s) (fits : StoresFit size s) (k : ℕ) (st : Store) where
  pub store_shape : Shape (with_store s k st)
  unfolding with_store
  store_shape = go (ltb k 22)
    where
      go : (b : Bool) →
          Shape (pick b (record { inputs = s.inputs; outputs = s.outputs; stores = set s.stores k st }) s)
      go true =
          record {
            inputs = shape.inputs;
            outputs = shape.outputs;
            stores = length-set s.stores k st ∙ shape.stores;
          }
      go false = shape

  pub store_fits : (k < 22 → bad_store size st ≡ false) → StoresFit size (with_store s k st)
  unfolding with_store
  store_fits good = go (ltb k 22) refl
    where
      stored : Router
      stored = record { inputs = s.inputs; outputs = s.outputs; stores = set s.stores k st }

      at : k < 22 → (j : ℕ) → j < 22 → Dec (j ≡ k) → bad_store size (store_at stored j) ≡ false
      at h j l (yes e) =
          rw (e, lt-ltb k 22 h, get_or-set_same s.stores k st fresh_store (omega (arith, shape.stores))) (good h)
      at h j l (no d) =
          rw (lt-ltb j 22 l, get_or-set_other s.stores k j st fresh_store d)
          (rw (lt-ltb j 22 l) at (fits.fit j l))

      go : (b : Bool) → ltb k 22 ≡ b → StoresFit size (pick b stored s)
      go true e = record { fit = λ j l. at (ltb-true k 22 e) j l (ℕ_discrete j k) }
      go false e = fits

abbrev stored : Router → ℕ → Store → Router
stored s k st = record { inputs = s.inputs; outputs = s.outputs; stores = set s.stores k st }

module _ (s : Router) (k : ℕ) (st : Store) where
  pub store_keeps_modes : (i : ℕ) → mode_at (with_store s k st) i ≡ mode_at s i
  unfolding with_store
  store_keeps_modes i = go (ltb k 22)
    where
      go : (b : Bool) → mode_at (pick b (stored s k st) s) i ≡ mode_at s i
      go true = refl
      go false = refl

  pub store_agrees : Agree (mode_at s) (output_at s) → Agree (mode_at (with_store s k st)) (output_at (with_store s k st))
  unfolding with_store
  store_agrees agree = go (ltb k 22)
    where
      go : (b : Bool) → Agree (mode_at (pick b (stored s k st) s)) (output_at (pick b (stored s k st) s))
      go true = agree
      go false = agree

-- and a store after a change

module _ (s : Router) (i : ℕ) (m : Mode) (k : ℕ) where
  pub mode_keeps_stores : store_at (with_mode s i m) k ≡ store_at s k
  unfolding with_mode
  mode_keeps_stores = go (ltb i 11)
    where
      go : (b : Bool) →
          store_at (pick b (record { inputs = set s.inputs i (record { mode = m }); outputs = s.outputs; stores = s.stores }) s) k
          ≡ store_at s k
      go true = refl
      go false = refl

module _ (s : Router) (o : ℕ) (out : Output) where
  pub output_keeps_stores : (k : ℕ) → store_at (with_output s o out) k ≡ store_at s k
  unfolding with_output
  output_keeps_stores k = go (ltb o 11)
    where
      go : (b : Bool) →
          store_at (pick b (record { inputs = s.inputs; outputs = set s.outputs o out; stores = s.stores }) s) k
          ≡ store_at s k
      go true = refl
      go false = refl

module _ (s : Router) (shape : Shape s) (k : ℕ) (st : Store) where
  pub store_new : k < 22 → store_at (with_store s k st) k ≡ st
  unfolding with_store
  store_new h = rw (lt-ltb k 22 h, get_or-set_same s.stores k st fresh_store (omega (arith, shape.stores)))

  pub store_others : (j : ℕ) → (j ≡ k → ⊥) → store_at (with_store s k st) j ≡ store_at s j
  unfolding with_store
  store_others j d = go (ltb k 22)
    where
      go : (b : Bool) →
          store_at (pick b (record { inputs = s.inputs; outputs = s.outputs; stores = set s.stores k st }) s) j
          ≡ store_at s j
      go true = rw (get_or-set_other s.stores k j st fresh_store d)
      go false = refl

-- what is kept of a router and its area of n places

pub record Sound (n : ℕ) (x : Machine) : Type 0 where
  pub shape : Shape x.router
  pub agree : Agree (mode_at x.router) (output_at x.router)
  pub fits : StoresFit (size_in x.area) x.router
  pub size : length x.area ≡ n

module _ (n : ℕ) (x : Machine) (sound : Sound n x) (k : ℕ) where
  pub drop_sound : Sound n (without_front x k)
  unfolding without_front
  drop_sound =
      let s = x.router in
      let size = size_in x.area in
      let st = without_first (places_at x.area k) (store_at s k) in
      record {
        shape = store_shape size s sound.shape sound.fits k st;
        agree = store_agrees s k st sound.agree;
        fits = store_fits size s sound.shape sound.fits k st
            (λ h. rw (places_length x.area k h) (drop_good size (store_at s k) (sound.fits.fit k h) 1));
        size = sound.size;
      }

  area_kept : (c : ℕ) (b : Bool) → ltb k 22 ≡ b →
      length (pick b (with_places x.area k (put_places (places_at x.area k) (store_at x.router k) c)) x.area)
      ≡ length x.area
  area_kept c true e =
      same_len_mid (k * size_in x.area) (size_in x.area) x.area
      (put_places (places_at x.area k) (store_at x.router k) c)
      (put_keeps_length (places_at x.area k) (store_at x.router k) c)
  area_kept c false e = refl

  pub append_sound : (c : ℕ) → Sound n (with_behind x k c)
  unfolding with_behind
  append_sound c =
      let s = x.router in
      let size = size_in x.area in
      let st = put_store size (store_at s k) c in
      let kept = area_kept c (ltb k 22) refl in
      record {
        shape = store_shape size s sound.shape sound.fits k st;
        agree = store_agrees s k st sound.agree;
        fits = rw kept (store_fits size s sound.shape sound.fits k st
            (λ h. put_good size (store_at s k) c (sound.fits.fit k h)));
        size = kept ∙ sound.size;
      }

-- such a state is not refused

mode_good : (s : Router) (i : ℕ) (m : Mode) → ModeOk (output_at s) i m → bad_mode s i m ≡ false
mode_good s i Idle ok = refl
mode_good s i (Waiting w) ok = ok
mode_good s i (Routed o) ok = rw (le-ltb 10 o (omega (arith, ok.0)), ok.1, eq-eqb i i refl)
mode_good s i Spilling ok = refl

owner_good : (s : Router) (o : ℕ) (w : Option ℕ) → OwnerOk (mode_at s) o w → bad_owner s o w ≡ false
owner_good s o None ok = refl
owner_good s o (Some i) ok = rw (le-ltb 10 i (omega (arith, ok.0)), ok.1, eq-eqb o o refl)

pub any_none : (f : ℕ → Bool) (bound : ℕ) → ((k : ℕ) → k < bound → f k ≡ false) → (from count : ℕ) → from + count ≤ bound →
    any f from count ≡ false
unfolding any
any_none f bound none from zero h = refl
any_none f bound none from (suc count) h =
    rw (none from (omega arith)) (any_none f bound none (from + 1) count (omega arith))

module _ (n : ℕ) (x : Machine) (sound : Sound n x) where
  pub sound_ports : bad_ports x.router ≡ false
  unfolding bad_ports
  sound_ports =
      any_none (bad_port x.router) 11
      (λ p h. rw (
        mode_good x.router p (mode_at x.router p) (sound.agree.inputs p h),
        owner_good x.router p (output_at x.router p).owner (sound.agree.owners p h),
        le-ltb 10 (output_at x.router p).last (omega (arith, sound.agree.lasts p h)),
      ))
      0 11 (omega arith)

  pub sound_stores : bad_stores x.router x.area ≡ false
  unfolding bad_stores
  sound_stores =
      any_none (λ (k : ℕ). bad_store (size_in x.area) (store_at x.router k)) 22 sound.fits.fit 0 22 (omega arith)
