-- What is written into one of the 22 stores of the area is found there, and every other store holds what it held.
-- Assumes nothing.
use mathlib.Core.Path.{◌≡◌, refl, sym, ap, ◌∙◌}
use mathlib.Core.List.{List, [], ◌∷◌, ◌++◌}
use Prim.Native.Nat.{ℕ, zero, suc, ◌+◌, ◌*◌, ◌-◌, ◌/◌, ◌≤◌, ◌<◌}
use native.Mathlib.Nat.{mul-le-mul_right}
use native.Mathlib.Decide.{dec_lt}
use native.Mathlib.Omega.{arith}
use lib.ListN.{length, take, drop}
use lib.Seq.{length-take-le, take-append_seam, drop-append_seam, drop-drop, take-take}
use borrow.Rule.Slice.PartMut.{same_len_mid, take_put, drop_put}
use Rattle.router_ports.specs.Places.{size_in, places_at, with_places}
use Rattle.router_ports.proofs.PlaceLaws.{part_ends, part_size, places_length}

-- a part that ends at or before b is a part of the first b
part_of_first : {A : Type 0} (a size b : ℕ) (xs : List A) → a + size ≤ b → take size (drop a (take b xs)) ≡ take size (drop a xs)
part_of_first zero size b xs h = take-take size b xs (omega arith)
part_of_first (suc a) size zero xs h = absurd (omega arith)
part_of_first (suc a) size (suc b) [] h = refl
part_of_first (suc a) size (suc b) (x ∷ xs) h = part_of_first a size b xs (omega arith)

module _ (area : List ℕ) (k : ℕ) (h : k < 22) (places : List ℕ) (same : length places ≡ size_in area) where
  abbrev size : ℕ
  size = size_in area

  abbrev written : List ℕ
  written = with_places area k places

  within : k * size + size ≤ length area
  within = part_ends k (length area) h

  length_kept : length written ≡ length area
  length_kept = same_len_mid (k * size) size area places (same ∙ sym (places_length area k h))

  -- a place counted in the written area is the same place
  size_kept : size_in written ≡ size
  size_kept = ap (λ (n : ℕ). n / 22) length_kept

  at_size : (j : ℕ) → places_at written j ≡ take size (drop (j * size) written)
  at_size j = ap (λ (n : ℕ). take n (drop (j * n) written)) size_kept

  before : length (take (k * size) area) ≡ k * size
  before = length-take-le (k * size) area (omega (arith, within))

  pub part_written : places_at written k ≡ places
  part_written =
      let behind : List ℕ = drop size (drop (k * size) area) in
      at_size k
      ∙ ap (λ (n : ℕ). take size (drop n written)) (sym before)
      ∙ ap (take size) (drop-append_seam (take (k * size) area) (places ++ behind))
      ∙ ap (λ (n : ℕ). take n (places ++ behind)) (sym same)
      ∙ take-append_seam places behind

  earlier : (j : ℕ) → j < k → places_at written j ≡ places_at area j
  earlier j l =
      let ends : (j + 1) * size ≤ k * size = mul-le-mul_right size (omega arith) in
      let fits : j * size + size ≤ k * size = omega arith in
      at_size j
      ∙ sym (part_of_first (j * size) size (k * size) written fits)
      ∙ ap (λ (ps : List ℕ). take size (drop (j * size) ps)) (take_put (k * size) size area places (omega (arith, within)))
      ∙ part_of_first (j * size) size (k * size) area fits

  later : (j : ℕ) → k < j → places_at written j ≡ places_at area j
  later j l =
      let starts : (k + 1) * size ≤ j * size = mul-le-mul_right size (omega arith) in
      let end : ℕ = k * size + size in
      let on : end + (j * size - end) ≡ j * size = omega arith in
      let kept : drop end written ≡ drop end area =
      ap (λ (n : ℕ). drop end (take (k * size) area ++ (places ++ drop n (drop (k * size) area)))) (sym (part_size k size))
      ∙ drop_put (k * size) end area places (omega arith) within (same ∙ sym (part_size k size)) in
      at_size j
      ∙ ap (λ (n : ℕ). take size (drop n written)) (sym on)
      ∙ ap (take size) (sym (drop-drop (j * size - end) end written))
      ∙ ap (λ (ps : List ℕ). take size (drop (j * size - end) ps)) kept
      ∙ ap (take size) (drop-drop (j * size - end) end area)
      ∙ ap (λ (n : ℕ). take size (drop n area)) on

  pub part_untouched : (j : ℕ) → (j ≡ k → ⊥) → places_at written j ≡ places_at area j
  part_untouched j d = go (dec_lt j k)
    where
      go : Dec (j < k) → places_at written j ≡ places_at area j
      go (yes l) = earlier j l
      go (no m) = later j (omega (arith, d, m))
