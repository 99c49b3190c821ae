-- Loading what was saved gives it back: each number fits its word, and each mode and owner has a number of its own.
-- Assumes nothing.
use Rattle.std.specs.Prelude.{Option, None, Some}
use Prim.Native.Nat.{ℕ, ◌+◌, ◌*◌, ◌^◌, ◌<◌}
use mathlib.Core.Path.{◌≡◌, refl, sym, ap, ap₂, ◌∙◌}
use native.Mathlib.Nat.{mod-eq_of_lt}
use native.Mathlib.Omega.{arith}
use lib.ListN.{get_or}
use lib.Seq.{ext_get_or}
use borrow.Author.Tests.{lt-ltb}
use Rattle.words.specs.Words.{word_at}
use Rattle.words.proofs.NumberLaws.{truth_back}
use Rattle.store.specs.Changes.{fresh_store}
use Rattle.router_ports.specs.Ports.{idle, no_output, mode_at, output_at, store_at}
use Rattle.router_ports.specs.declared.Mode.{Mode}
use Rattle.router_ports.specs.declared.Mode.TheVariants.{Idle, Waiting, Routed, Spilling}
use Rattle.router_ports.specs.Records.{Router}
use Rattle.store.specs.StoreWords.{store_of}
use Rattle.router_ports.specs.RouterWords.{listed, mode_words, output_words, router_word, router_words}
use Rattle.router_ports.specs.RouterWords.{wanted_of, mode_of, owner_of, input_in, output_in, store_in, router_of}
use Rattle.router_ports.specs.RouterWords.{FitsMode, FitsOwner, FitsRouter}
use Rattle.router_ports.proofs.ListedLaws.{length_listed, get_or_listed}
use Rattle.router_ports.proofs.PlaceWords.{nothing_more, mode_word, output_word, store_word, saved_word}

mode_back : (m : Mode) → FitsMode m → mode_of (word_at (mode_words m) 0) (word_at (mode_words m) 1) (word_at (mode_words m) 2) ≡ m
unfolding mode_of wanted_of
mode_back Idle f = refl
mode_back (Waiting w) f = rw (mod-eq_of_lt f, truth_back w.high)
mode_back (Routed o) f = ap Routed (mod-eq_of_lt f)
mode_back Spilling f = refl

owner_back : (w : Option ℕ) (last : ℕ) → FitsOwner w → owner_of (word_at (output_words w last) 0) (word_at (output_words w last) 1) ≡ w
owner_back None last f = refl
owner_back (Some i) last f = ap Some (mod-eq_of_lt f)

last_back : (w : Option ℕ) (last : ℕ) → last < 2 ^ 32 → word_at (output_words w last) 2 ≡ last
last_back None last f = mod-eq_of_lt f
last_back (Some i) last f = mod-eq_of_lt f

module _ (r : Router) (fits : FitsRouter r) where
  mode_at_lem : (p j : ℕ) → p < 11 → j < 3 → word_at (router_words r) (3 * p + j) ≡ word_at (mode_words (mode_at r p)) j
  mode_at_lem p j h l = saved_word r (3 * p + j) (omega (arith, h, l)) ∙ mode_word r p j h l

  input_back : (p : ℕ) → p < 11 → input_in (router_words r) p ≡ get_or r.inputs p idle
  unfolding input_in
  input_back p h =
      let first : word_at (router_words r) (3 * p) ≡ word_at (mode_words (mode_at r p)) 0 =
      ap (word_at (router_words r)) (nothing_more (3 * p)) ∙ mode_at_lem p 0 h (omega arith) in
      let same : mode_at r p ≡ (get_or r.inputs p idle).mode = rw (lt-ltb p 11 h) in
      ap (λ (m : Mode). record { mode = m })
      (rw (first, mode_at_lem p 1 h (omega arith), mode_at_lem p 2 h (omega arith)) (mode_back (mode_at r p) (fits.modes p h) ∙ same))

  output_at_lem : (p j : ℕ) → p < 11 → j < 3 →
      word_at (router_words r) (3 * p + 33 + j) ≡ word_at (output_words (output_at r p).owner (output_at r p).last) j
  output_at_lem p j h l = saved_word r (3 * p + 33 + j) (omega (arith, h, l)) ∙ output_word r p j h l

  output_back : (p : ℕ) → p < 11 → output_in (router_words r) p ≡ get_or r.outputs p no_output
  unfolding output_in
  output_back p h =
      let out = output_at r p in
      let same : out ≡ get_or r.outputs p no_output = rw (lt-ltb p 11 h) in
      let first : word_at (router_words r) (3 * p + 33) ≡ word_at (output_words out.owner out.last) 0 =
      ap (word_at (router_words r)) (nothing_more (3 * p + 33)) ∙ output_at_lem p 0 h (omega arith) in
      let owner : owner_of (word_at (router_words r) (3 * p + 33)) (word_at (router_words r) (3 * p + 33 + 1)) ≡ out.owner =
      rw (first, output_at_lem p 1 h (omega arith)) (owner_back out.owner out.last (fits.owners p h)) in
      let last : word_at (router_words r) (3 * p + 33 + 2) ≡ out.last =
      output_at_lem p 2 h (omega arith) ∙ last_back out.owner out.last (fits.lasts p h) in
      ap₂ (λ (w : Option ℕ) (n : ℕ). record { owner = w; last = n }) owner last ∙ same

  store_back : (k : ℕ) → k < 22 → store_in (router_words r) k ≡ get_or r.stores k fresh_store
  unfolding store_of
  store_back k h =
      let st = store_at r k in
      let same : st ≡ get_or r.stores k fresh_store = rw (lt-ltb k 22 h) in
      let front : word_at (router_words r) (2 * k + 66) ≡ st.front =
      saved_word r (2 * k + 66) (omega (arith, h)) ∙ ap (router_word r) (nothing_more (2 * k + 66)) ∙ store_word r k 0 (omega arith)
      ∙ mod-eq_of_lt (fits.fronts k h) in
      let len : word_at (router_words r) (2 * k + 66 + 1) ≡ st.len =
      saved_word r (2 * k + 66 + 1) (omega (arith, h)) ∙ store_word r k 1 (omega arith) ∙ mod-eq_of_lt (fits.lens k h) in
      ap₂ (λ (a b : ℕ). record { front = a; len = b }) front len ∙ same

  back : router_of (router_words r) ≡ r
  unfolding router_of
  back =
      let inputs : listed (input_in (router_words r)) 0 11 ≡ r.inputs =
      ext_get_or idle _ _ (length_listed _ 0 11 ∙ sym fits.inputs)
      (λ p l. get_or_listed (input_in (router_words r)) 0 11 p idle (omega (arith, l, length_listed (input_in (router_words r)) 0 11))
      ∙ ap (input_in (router_words r)) (let e : 0 + p ≡ p = omega arith in e)
      ∙ input_back p (omega (arith, l, length_listed (input_in (router_words r)) 0 11))) in
      let outputs : listed (output_in (router_words r)) 0 11 ≡ r.outputs =
      ext_get_or no_output _ _ (length_listed _ 0 11 ∙ sym fits.outputs)
      (λ p l. get_or_listed (output_in (router_words r)) 0 11 p no_output (omega (arith, l, length_listed (output_in (router_words r)) 0 11))
      ∙ ap (output_in (router_words r)) (let e : 0 + p ≡ p = omega arith in e)
      ∙ output_back p (omega (arith, l, length_listed (output_in (router_words r)) 0 11))) in
      let stores : listed (store_in (router_words r)) 0 22 ≡ r.stores =
      ext_get_or fresh_store _ _ (length_listed _ 0 22 ∙ sym fits.stores)
      (λ p l. get_or_listed (store_in (router_words r)) 0 22 p fresh_store (omega (arith, l, length_listed (store_in (router_words r)) 0 22))
      ∙ ap (store_in (router_words r)) (let e : 0 + p ≡ p = omega arith in e)
      ∙ store_back p (omega (arith, l, length_listed (store_in (router_words r)) 0 22))) in
      rw (inputs, outputs, stores)

pub router_back : (r : Router) → FitsRouter r → router_of (router_words r) ≡ r
router_back r fits = back r fits
