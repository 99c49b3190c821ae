-- The words of the stores, two by two from the first on: each pair is tested as the store that it means.
-- Assumes nothing.
use Rattle.std.proofs.Common.{◌≡◌, ℕ, zero, suc, ◌+◌, ◌*◌, ◌/◌, ◌<◌, ◌≤◌, Bool, ◌||◌, List, length, take, drop, leb, ltb, refl, ap, ap₂, ◌∙◌, arith}
use Rattle.std.proofs.lemmas.List.{take_all, drop-drop, length-drop}
use Rattle.std.specs.List.{list_any}
use Rattle.std.specs.Simd.{first_chunks}
use Rattle.words.specs.Words.{word_at}
use Rattle.store.specs.Ring.{bad_store}
use Rattle.store.specs.StoreWords.{store_of}
use Rattle.router_ports.specs.Each.{any}
use Rattle.router_ports.specs.Ports.{store_at}
use Rattle.router_ports.specs.RouterWords.{router_of}
use Rattle.router_ports.proofs.PlaceWords.{store_in_lem}
use Rattle.router_ports.proofs.RowLaws.{word_taken}

module _ (words : List ℕ) (size : ℕ) where
  abbrev bad_words : List ℕ → Bool
  bad_words row = leb size (word_at row 0) || ltb size (word_at row 1)

  abbrev bad_at : ℕ → Bool
  bad_at k = bad_store size (store_at (router_of words) k)

  bad_here : (k : ℕ) → k < 22 → bad_words (take 2 (drop (66 + 2 * k) words)) ≡ bad_at k
  unfolding store_of
  bad_here k h =
      let e : 66 + 2 * k ≡ 2 * k + 66 = omega arith in
      rw (
        store_in_lem words k h,
        word_taken words (66 + 2 * k) 2 0 (omega arith),
        word_taken words (66 + 2 * k) 2 1 (omega arith),
        e,
        let first : 2 * k + 66 + 0 ≡ 2 * k + 66 = omega arith in first,
      )

  each_bad : (from count : ℕ) → from + count ≤ 22 →
      list_any bad_words (first_chunks 2 count (drop (66 + 2 * from) words)) ≡ any bad_at from count
  unfolding any
  each_bad from zero h = refl
  each_bad from (suc count) h =
      ap₂ (λ (here rest : Bool). here || rest) (bad_here from (omega (arith, h)))
      (ap (λ (rest : List ℕ). list_any bad_words (first_chunks 2 count rest))
      (drop-drop 2 (66 + 2 * from) words ∙ ap (λ (m : ℕ). drop m words) (let e : 66 + 2 * from + 2 ≡ 66 + 2 * (from + 1) = omega arith in e))
      ∙ each_bad (from + 1) count (omega (arith, h)))

  pub bad_pairs : length words ≡ 110 →
      list_any bad_words (first_chunks 2 (length (take 44 (drop 66 words)) / 2) (take 44 (drop 66 words))) ≡ any bad_at 0 22
  bad_pairs long =
      let left : length (drop 66 words) ≡ 44 = omega (arith, length-drop 66 words, long) in
      let all : take 44 (drop 66 words) ≡ drop 66 words = take_all 44 (drop 66 words) (omega arith) in
      rw (all, left) (each_bad 0 22 (omega arith))
