-- What is left to do falls with every change. An input has six steps left for each N-Char that waits, and four more while it
-- is idle, three while it waits, two while it is routed, none while it spills: an N-Char that leaves takes six, a mode that
-- goes on takes one or more, and no mode gives back as many.
-- Assumes nothing.
use mathlib.Core.Path.{◌≡◌, refl, sym, ap, ap₂, ◌∙◌}
use mathlib.Core.Bool.{false}
use Prim.Native.Nat.{ℕ, zero, suc, ◌+◌, ◌*◌, ◌-◌, ◌<◌}
use native.Mathlib.Nat.{not-suc-le-zero}
use native.Mathlib.Decide.{ℕ_discrete}
use native.Mathlib.Omega.{arith}
use lib.ListN.{length}
use borrow.Author.Tests.{leb-false}
use Rattle.store.specs.Ring.{empty, bad_store}
use Rattle.store.specs.Changes.{without_first}
use Rattle.store.specs.declared.Store.{Store}
use Rattle.store.proofs.RingLaws.{drop_len}
use Rattle.router_ports.specs.Ports.{mode_at, store_at, with_mode, with_output, with_store, input_store, output_store}
use Rattle.router_ports.specs.Places.{Machine, machine, places_at, empty_at, without_front, with_behind}
use Rattle.router_ports.specs.declared.Mode.{Mode}
use Rattle.router_ports.specs.declared.Mode.TheVariants.{Idle, Waiting, Routed, Spilling}
use Rattle.router_ports.specs.declared.Output.{Output}
use Rattle.router_ports.proofs.PlaceLaws.{places_length}
use Rattle.router_ports.proofs.StateLaws.{Shape, Sound, mode_changed, mode_keeps_stores, output_keeps_modes, output_keeps_stores}
use Rattle.router_ports.proofs.StateLaws.{output_shape, store_keeps_modes, store_new, store_others}

-- a sum of which one part changes

total : (ℕ → ℕ) → ℕ → ℕ
total f zero = 0
total f (suc n) = total f n + f n

total_same : (f g : ℕ → ℕ) (n : ℕ) → ((j : ℕ) → j < n → g j ≡ f j) → total g n ≡ total f n
unfolding total
total_same f g zero same = refl
total_same f g (suc n) same = ap₂ ◌+◌ (total_same f g n (λ j h. same j (omega arith))) (same n (omega arith))

total_at : (f g : ℕ → ℕ) (n i : ℕ) → i < n → ((j : ℕ) → j < n → (j ≡ i → ⊥) → g j ≡ f j) →
    total g n + f i ≡ total f n + g i
unfolding total
total_at f g zero i h same = absurd (not-suc-le-zero h)
total_at f g (suc n) i h same = go (ℕ_discrete i n) (λ l. total_at f g n i l (λ j k. same j (omega arith)))
  where
    go : Dec (i ≡ n) → (i < n → total g n + f i ≡ total f n + g i) → total g n + g n + f i ≡ total f n + f n + g i
    go (yes e) shorter =
        let rest = total_same f g n (λ j l. same j (omega arith) (λ k. omega arith)) in
        let fi : f i ≡ f n = ap f e in
        let gi : g i ≡ g n = ap g e in
        omega arith
    go (no d) shorter =
        let rest = shorter (omega (arith, d)) in
        let last : g n ≡ f n = same n (omega arith) (λ k. d (sym k)) in
        omega arith

abbrev pub left_of : Mode → ℕ → ℕ
left_of Idle len = 6 * len + 4
left_of (Waiting w) len = 6 * len + 3
left_of (Routed o) len = 6 * len + 2
left_of Spilling len = 6 * len

abbrev pub left_at : Machine → ℕ → ℕ
left_at x i = left_of (mode_at x.router i) (store_at x.router (input_store i)).len

pub left : Machine → ℕ
left x = total (left_at x) 11

-- one input that has fewer steps left, or more, and all others as many
pub left_at_lem : (x y : Machine) (i : ℕ) → i < 11 → ((j : ℕ) → j < 11 → (j ≡ i → ⊥) → left_at y j ≡ left_at x j) →
    left y + left_at x i ≡ left x + left_at y i
unfolding left
left_at_lem x y i h same = total_at (left_at x) (left_at y) 11 i h same

pub left_same : (x y : Machine) → ((j : ℕ) → j < 11 → left_at y j ≡ left_at x j) → left y ≡ left x
unfolding left
left_same x y same = total_same (left_at x) (left_at y) 11 same

one_less : (m : Mode) (len : ℕ) → 0 < len → left_of m (len - 1) + 6 ≡ left_of m len
one_less Idle len h = omega arith
one_less (Waiting w) len h = omega arith
one_less (Routed o) len h = omega arith
one_less Spilling len h = omega arith

module _ (n : ℕ) (x : Machine) (sound : Sound n x) where
  -- an N-Char leaves: six
  pub drop_falls : (i : ℕ) → i < 11 → empty_at x (input_store i) ≡ false → left (without_front x (input_store i)) + 6 ≡ left x
  unfolding without_front
  drop_falls i h some =
      let s = x.router in
      let st = store_at s i in
      let new = without_first (places_at x.area i) st in
      let one : 0 < st.len = leb-false st.len 0 some in
      let fits : bad_store (length (places_at x.area i)) st ≡ false = rw (places_length x.area i (omega arith)) (sound.fits.fit i (omega arith)) in
      let fewer : (store_at (with_store s i new) i).len ≡ st.len - 1 =
      ap (λ (t : Store). t.len) (store_new s sound.shape i new (omega arith))
      ∙ drop_len (length (places_at x.area i)) st fits 1 one in
      let now = ap₂ left_of (store_keeps_modes s i new i) fewer in
      let sum = left_at_lem x (machine (with_store s i new) x.area) i h
      (λ j l d. ap₂ left_of (store_keeps_modes s i new j)
      (ap (λ (t : Store). t.len) (store_others s sound.shape i new j d))) in
      omega (arith, sum, now, one_less (mode_at s i) st.len one)

  pub append_falls : (o c : ℕ) → left (with_behind x (output_store o) c) ≡ left x
  unfolding with_behind
  append_falls o c =
      left_same x _
      (λ j h. ap₂ left_of (store_keeps_modes x.router (output_store o) _ j)
      (ap (λ (st : Store). st.len) (store_others x.router sound.shape (output_store o) _ j (λ e. omega arith))))

  pub append_keeps_empty : (o c i : ℕ) → i < 11 → empty_at (with_behind x (output_store o) c) (input_store i) ≡ empty_at x (input_store i)
  unfolding with_behind
  append_keeps_empty o c i h = ap empty (store_others x.router sound.shape (output_store o) _ i (λ e. omega arith))

module _ (x : Machine) (shape : Shape x.router) where
  -- a mode changes, at one input
  pub mode_falls : (i : ℕ) (was m : Mode) → i < 11 → mode_at x.router i ≡ was →
      left (machine (with_mode x.router i m) x.area) + left_of was (store_at x.router (input_store i)).len
      ≡ left x + left_of m (store_at x.router (input_store i)).len
  mode_falls i was m h e =
      let s = x.router in
      let one = mode_changed s shape i m h in
      let same : (j : ℕ) → (store_at (with_mode s i m) j).len ≡ (store_at s j).len =
      λ j. ap (λ (t : Store). t.len) (mode_keeps_stores s i m j) in
      ap (λ (k : Mode). left (machine (with_mode s i m) x.area) + left_of k (store_at s i).len) (sym e)
      ∙ left_at_lem x (machine (with_mode s i m) x.area) i h (λ j l d. ap₂ left_of (one.others j d) (same j))
      ∙ ap (λ (k : ℕ). left x + k) (ap₂ left_of one.new (same i))

  pub output_falls : (o : ℕ) (out : Output) → o < 11 → left (machine (with_output x.router o out) x.area) ≡ left x
  output_falls o out h =
      left_same x _
      (λ j l. ap₂ left_of (output_keeps_modes x.router shape o out h j)
      (ap (λ (t : Store). t.len) (output_keeps_stores x.router o out j)))

module _ (x : Machine) (shape : Shape x.router) where
  -- an output and a mode change together
  pub both_fall : (i o : ℕ) (out : Output) (was m : Mode) → i < 11 → o < 11 → mode_at x.router i ≡ was →
      left (machine (with_mode (with_output x.router o out) i m) x.area)
      + left_of was (store_at x.router (input_store i)).len
      ≡ left x + left_of m (store_at x.router (input_store i)).len
  both_fall i o out was m h k e =
      let s = with_output x.router o out in
      let len : (store_at s i).len ≡ (store_at x.router i).len =
      ap (λ (t : Store). t.len) (output_keeps_stores x.router o out i) in
      let mode = output_keeps_modes x.router shape o out k i ∙ e in
      let both = mode_falls (machine s x.area) (output_shape x.router shape o out k) i was m h mode in
      rw (← len) (both ∙ ap (λ (j : ℕ). j + left_of m (store_at s i).len) (output_falls x shape o out k))
