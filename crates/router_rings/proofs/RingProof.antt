-- A run over rings is the run over the lists that they stand for: each change of a ring is the same change of its list.
-- Assumes nothing.
use mathlib.Core.Path.{◌≡◌, refl, sym, ap, ap₂, subst, ◌∙◌}
use mathlib.Core.Bool.{Bool, true, false}
use mathlib.Core.List.{List, [], ◌∷◌, ◌++◌}
use Prim.Native.Nat.{ℕ, zero, suc, ◌/◌, ◌≤◌, ◌<◌}
use native.Mathlib.Decide.{ℕ_discrete}
use native.Mathlib.Omega.{arith}
use lib.Dec.{ltb, leb}
use lib.ListN.{length, drop, set}
use borrow.Author.Tests.{lt-ltb, eq-eqb, ne_eqb, lt-leb, leb-false}
use Rattle.vocabulary.specs.Choice.{pick}
use Rattle.vocabulary.specs.NChars.{read_as}
use Rattle.store.specs.Ring.{full, standing, waiting, bad_store}
use Rattle.store.specs.Changes.{put_store, put_places, front_of, dropped, without_first}
use Rattle.store.specs.declared.Store.{Store}
use Rattle.store.proofs.RingLaws.{waiting_length, put_appends, drop_drops, front_is_first, put_keeps_length}
use Rattle.router_ports.specs.Ports.{mode_at, output_at, store_at, with_mode, with_output, with_store}
use Rattle.router_ports.specs.Places.{Machine, machine, size_in, places_at, with_places, empty_at, full_at, front_at, without_front, with_behind}
use Rattle.router_ports.specs.declared.Mode.{Mode}
use Rattle.router_ports.specs.declared.Output.{Output}
use Rattle.router_ports.specs.Records.{Router}
use Rattle.router_ports.proofs.PlaceLaws.{places_length}
use Rattle.router_ports.proofs.StateLaws.{Shape, Sound, mode_changed, output_changed, mode_keeps_outputs, output_keeps_modes}
use Rattle.router_ports.proofs.StateLaws.{store_keeps_modes, mode_keeps_stores, output_keeps_stores, store_new, store_others}
use Rattle.router_rounds.specs.Model.{Model, model, at, is_nil, first}
use Rattle.router_rounds.specs.Exact.{exact}
use Rattle.router_rings.specs.Tied.{held_at, Tied}
use Rattle.router_rings.proofs.PartLaws.{part_written, part_untouched}

-- a list changed at one number

pub at_same : {B : Type 0} (f : ℕ → B) (k : ℕ) (v : B) → at f k v k ≡ v
at_same f k v = rw (eq-eqb k k refl)

pub at_other : {B : Type 0} (f : ℕ → B) (k : ℕ) (v : B) (j : ℕ) → (j ≡ k → ⊥) → at f k v j ≡ f j
at_other f k v j d = rw (ne_eqb j k d)

-- two functions that agree still do when both are changed alike at one number
pub same_at : {B : Type 0} (f f' g : ℕ → B) (k : ℕ) (v : B) → f' k ≡ v → ((j : ℕ) → (j ≡ k → ⊥) → f' j ≡ f j) →
    ((j : ℕ) → f j ≡ g j) → (j : ℕ) → f' j ≡ at g k v j
same_at f f' g k v new others same j = go (ℕ_discrete j k)
  where
    go : Dec (j ≡ k) → f' j ≡ at g k v j
    go (yes e) = rw (e) (new ∙ sym (at_same g k v))
    go (no d) = others j d ∙ same j ∙ sym (at_other g k v j d)

-- what a store shows is what its list shows

nil_empty : (places : List ℕ) (front len : ℕ) → leb len 0 ≡ is_nil (standing places front len)
unfolding standing
nil_empty places front zero = refl
nil_empty places front (suc len) = lt-leb (suc len) 0 (omega arith)

-- a sound state and area of n places, and the lists that it stands for
pub record Lists (n : ℕ) (x : Machine) (y : Model) : Type 0 where
  pub sound : Sound n x
  pub tied : Tied x y

module _ (n : ℕ) (x : Machine) (y : Model) (r : Lists n x y) where
  abbrev size : ℕ
  size = size_in x.area

  abbrev st : ℕ → Store
  st k = store_at x.router k

  sized : (k : ℕ) → k < 22 → length (places_at x.area k) ≡ size
  sized k h = places_length x.area k h

  good : (k : ℕ) → k < 22 → bad_store (length (places_at x.area k)) (st k) ≡ false
  good k h = rw (sized k h) (r.sound.fits.fit k h)

  pub shows_empty : (k : ℕ) → empty_at x k ≡ is_nil (y.held k)
  shows_empty k = nil_empty (places_at x.area k) (st k).front (st k).len ∙ ap is_nil (r.tied.held k)

  pub shows_full : (k : ℕ) → k < 22 → full_at x k ≡ leb (n / 22) (length (y.held k))
  shows_full k h =
      let len : (st k).len ≡ length (y.held k) =
      sym (waiting_length (places_at x.area k) (st k)) ∙ ap length (r.tied.held k) in
      let total : size ≡ n / 22 = ap (λ (m : ℕ). m / 22) r.sound.size in
      ap (λ (b : Bool). pick b (full size (st k)) true) (lt-ltb k 22 h) ∙ ap₂ leb total len

  -- the front N-Char is the first of the list
  pub front_first : (k : ℕ) → k < 22 → empty_at x k ≡ false →
      y.held k ≡ front_at x k ∷ waiting (places_at x.area k) (dropped size (st k) 1)
  front_first k h some =
      sym (r.tied.held k)
      ∙ front_is_first (places_at x.area k) (st k) (good k h) some
      ∙ ap (λ (m : ℕ). front_of (places_at x.area k) (st k) ∷ waiting (places_at x.area k) (dropped m (st k) 1)) (sized k h)
      ∙ ap (λ (b : Bool). pick b (front_of (places_at x.area k) (st k)) 0 ∷ waiting (places_at x.area k) (dropped size (st k) 1))
      (sym (lt-ltb k 22 h))

  pub shows_front : (k : ℕ) → k < 22 → empty_at x k ≡ false → front_at x k ≡ first (y.held k)
  shows_front k h some = ap first (sym (front_first k h some))

-- each change of the rings is the same change of the lists

module _ (x : Machine) (y : Model) (shape : Shape x.router) (tied : Tied x y) where
  abbrev s : Router
  s = x.router

  pub mode_tied : (N : ℕ) (i : ℕ) (m : Mode) → i < 11 → Tied (exact.set_mode x i m) ((model N).set_mode y i m)
  mode_tied N i m h =
      let one = mode_changed s shape i m h in
      record {
        modes = same_at (mode_at s) (mode_at (with_mode s i m)) y.modes i m one.new one.others tied.modes;
        outputs = λ o. mode_keeps_outputs s shape i m h o ∙ tied.outputs o;
        held = λ k. ap (waiting (places_at x.area k)) (mode_keeps_stores s i m k) ∙ tied.held k;
      }

  pub output_tied : (N : ℕ) (o : ℕ) (out : Output) → o < 11 → Tied (exact.set_output x o out) ((model N).set_output y o out)
  output_tied N o out h =
      let one = output_changed s shape o out h in
      record {
        modes = λ i. output_keeps_modes s shape o out h i ∙ tied.modes i;
        outputs = same_at (output_at s) (output_at (with_output s o out)) y.outputs o out one.new one.others tied.outputs;
        held = λ k. ap (waiting (places_at x.area k)) (output_keeps_stores s o out k) ∙ tied.held k;
      }

store_keeps_outputs : (s : Router) (k : ℕ) (st : Store) (o : ℕ) → output_at (with_store s k st) o ≡ output_at s o
unfolding with_store
store_keeps_outputs s k st o = go (ltb k 22)
  where
    go : (b : Bool) →
        output_at (pick b (record { inputs = s.inputs; outputs = s.outputs; stores = set s.stores k st }) s) o ≡ output_at s o
    go true = refl
    go false = refl

module _ (n : ℕ) (x : Machine) (y : Model) (r : Lists n x y) (k : ℕ) (h : k < 22) where
  abbrev places : List ℕ
  places = places_at x.area k

  pub drop_tied : empty_at x k ≡ false → Tied (without_front x k) ((model (n / 22)).drop_front y k)
  unfolding without_front
  drop_tied some =
      let s = x.router in
      let shape = r.sound.shape in
      let shorter = without_first places (store_at s k) in
      let one : 1 ≤ (store_at s k).len = leb-false (store_at s k).len 0 some in
      let new : held_at (machine (with_store s k shorter) x.area) k ≡ drop 1 (y.held k) =
      ap (waiting places) (store_new s shape k shorter h)
      ∙ drop_drops places (store_at s k) (good n x y r k h) 1 one
      ∙ ap (drop 1) (r.tied.held k) in
      record {
        modes = λ i. store_keeps_modes s k shorter i ∙ r.tied.modes i;
        outputs = λ o. store_keeps_outputs s k shorter o ∙ r.tied.outputs o;
        held =
            same_at (held_at x) (held_at (machine (with_store s k shorter) x.area)) y.held k (drop 1 (y.held k)) new
            (λ j d. ap (waiting (places_at x.area j)) (store_others s shape k shorter j d)) r.tied.held;
      }

  pub append_tied : (c : ℕ) → read_as c ≡ c → full_at x k ≡ false → Tied (with_behind x k c) ((model (n / 22)).append y k c)
  unfolding with_behind
  append_tied c small room =
      let s = x.router in
      let shape = r.sound.shape in
      let longer = put_store (size_in x.area) (store_at s k) c in
      let filled = put_places places (store_at s k) c in
      let same : length filled ≡ size_in x.area = put_keeps_length places (store_at s k) c ∙ sized n x y r k h in
      let area : List ℕ = with_places x.area k filled in
      let space : full (length places) (store_at s k) ≡ false =
      ap (λ (m : ℕ). full m (store_at s k)) (sized n x y r k h)
      ∙ ap (λ (b : Bool). pick b (full (size_in x.area) (store_at s k)) true) (sym (lt-ltb k 22 h)) ∙ room in
      let new : held_at (machine (with_store s k longer) area) k ≡ y.held k ++ c ∷ [] =
      ap₂ waiting (part_written x.area k h filled same) (store_new s shape k longer h)
      ∙ ap (λ (m : ℕ). waiting filled (put_store m (store_at s k) c)) (sym (sized n x y r k h))
      ∙ put_appends places (store_at s k) c (good n x y r k h) space
      ∙ ap₂ (λ (ns : List ℕ) (m : ℕ). ns ++ m ∷ []) (r.tied.held k) small in
      subst (λ (b : Bool). Tied (machine (with_store s k longer) (pick b area x.area)) ((model (n / 22)).append y k c))
      (sym (lt-ltb k 22 h))
      (record {
        modes = λ i. store_keeps_modes s k longer i ∙ r.tied.modes i;
        outputs = λ o. store_keeps_outputs s k longer o ∙ r.tied.outputs o;
        held =
            same_at (held_at x) (held_at (machine (with_store s k longer) area)) y.held k (y.held k ++ c ∷ []) new
            (λ j d. ap₂ waiting (part_untouched x.area k h filled same j d) (store_others s shape k longer j d)) r.tied.held;
      })
