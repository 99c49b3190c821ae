-- To write the words of one input, output or store is to save the router in which it is changed: they stand where it is
-- saved, and nothing else of the router is saved there.
-- Assumes nothing.
use Prim.Native.Nat.{ℕ, zero, suc, ◌+◌, ◌-◌, ◌*◌, ◌/◌, ◌%◌, ◌≤◌, ◌<◌}
use mathlib.Core.Path.{◌≡◌, refl, sym, ap, ◌∙◌}
use mathlib.Core.List.{List, [], ◌∷◌}
use native.Mathlib.Decide.{dec_lt}
use native.Mathlib.Omega.{arith}
use lib.ListN.{length, set, length-set}
use lib.Seq.{sets, length-sets, ext_get_or, get_or-set_same, get_or-set_other}
use borrow.Author.Tests.{lt-ltb, le-ltb}
use Rattle.words.specs.Words.{word_at}
use Rattle.store.specs.declared.Store.{Store}
use Rattle.store.specs.Changes.{fresh_store}
use Rattle.router_ports.specs.Ports.{with_mode, with_output, with_store}
use Rattle.router_ports.specs.declared.Mode.{Mode}
use Rattle.router_ports.specs.declared.Output.{Output}
use Rattle.router_ports.specs.Records.{Router}
use Rattle.router_ports.proofs.StateLaws.{Shape, mode_changed, output_changed, store_new}
use Rattle.store.specs.StoreWords.{store_words}
use Rattle.router_ports.specs.RouterWords.{listed, mode_words, output_words, router_word, router_words}
use Rattle.router_ports.specs.RouterWords.{with_mode_in, with_output_in, with_store_in}
use Rattle.router_ports.proofs.ListedLaws.{length_listed, get_or_listed}
use Rattle.router_ports.proofs.PlaceWords.{mode_length, output_length, mode_word, output_word, store_word}

-- a row of words is where it was written, and the words before and behind it are those that stood there

pub sets_before : (words : List ℕ) (at : ℕ) (row : List ℕ) (k : ℕ) → k < at → word_at (sets words at row) k ≡ word_at words k
sets_before words at [] k h = refl
sets_before words at (a ∷ row) k h =
    sets_before (set words at a) (suc at) row k (omega (arith, h))
    ∙ get_or-set_other words at k a 0 (λ e. omega (arith, e, h))

pub sets_behind : (words : List ℕ) (at : ℕ) (row : List ℕ) (k : ℕ) → at + length row ≤ k →
    word_at (sets words at row) k ≡ word_at words k
sets_behind words at [] k h = refl
sets_behind words at (a ∷ row) k h =
    sets_behind (set words at a) (suc at) row k (omega (arith, h))
    ∙ get_or-set_other words at k a 0 (λ e. omega (arith, e, h))

pub sets_there : (words : List ℕ) (at : ℕ) (row : List ℕ) (j : ℕ) → j < length row → at + length row ≤ length words →
    word_at (sets words at row) (at + j) ≡ word_at row j
sets_there words at [] j h l = absurd (omega (arith, h))
sets_there words at (a ∷ row) zero h l =
    ap (word_at (sets (set words at a) (suc at) row)) (let e : at + 0 ≡ at = omega arith in e)
    ∙ sets_before (set words at a) (suc at) row at (omega arith)
    ∙ get_or-set_same words at a 0 (omega (arith, l))
sets_there words at (a ∷ row) (suc j) h l =
    ap (word_at (sets (set words at a) (suc at) row)) (let e : at + suc j ≡ suc at + j = omega arith in e)
    ∙ sets_there (set words at a) (suc at) row j (omega (arith, h)) (omega (arith, l, length-set words at a))

-- a router's words with a row written are those of another router, where that is saved so and otherwise as the first
pub laid : (s t : Router) (at : ℕ) (row : List ℕ) → at + length row ≤ 110 →
    ((j : ℕ) → j < length row → router_word t (at + j) ≡ word_at row j) →
    ((k : ℕ) → k < at → router_word t k ≡ router_word s k) →
    ((k : ℕ) → at + length row ≤ k → router_word t k ≡ router_word s k) →
    sets (router_words s) at row ≡ router_words t
unfolding router_words
laid s t at row h there before behind =
    ext_get_or 0 (sets words at row) (listed (router_word t) 0 110) (long ∙ sym (length_listed (router_word t) 0 110))
    (λ k l. below k (omega (arith, l, long)) (dec_lt k at) (dec_lt k (at + length row)))
  where
    words : List ℕ
    words = listed (router_word s) 0 110

    long : length (sets words at row) ≡ 110
    long = length-sets words at row ∙ length_listed (router_word s) 0 110

    old : (k : ℕ) → k < 110 → word_at words k ≡ router_word s k
    old k l = get_or_listed (router_word s) 0 110 k 0 l ∙ ap (router_word s) (let e : 0 + k ≡ k = omega arith in e)

    new : (k : ℕ) → k < 110 → router_word t k ≡ word_at (listed (router_word t) 0 110) k
    new k l = sym (get_or_listed (router_word t) 0 110 k 0 l ∙ ap (router_word t) (let e : 0 + k ≡ k = omega arith in e))

    below : (k : ℕ) → k < 110 → Dec (k < at) → Dec (k < at + length row) →
        word_at (sets words at row) k ≡ word_at (listed (router_word t) 0 110) k
    below k l (yes b) d = sets_before words at row k b ∙ old k l ∙ sym (before k b) ∙ new k l
    below k l (no b) (no d) =
        sets_behind words at row k (omega (arith, d)) ∙ old k l ∙ sym (behind k (omega (arith, d))) ∙ new k l
    below k l (no b) (yes d) =
        let e : at + (k - at) ≡ k = omega (arith, b) in
        ap (word_at (sets words at row)) (sym e)
        ∙ sets_there words at row (k - at) (omega (arith, b, d)) (omega (arith, h, length_listed (router_word s) 0 110))
        ∙ sym (there (k - at) (omega (arith, b, d)))
        ∙ ap (router_word t) e
        ∙ new k l

module _ (s : Router) (shape : Shape s) where
  module _ (i : ℕ) (m : Mode) (h : i < 11) where
    mode_there : (j : ℕ) → j < 3 → router_word (with_mode s i m) (3 * i + j) ≡ word_at (mode_words m) j
    mode_there j l =
        mode_word (with_mode s i m) i j h l ∙ ap (λ (n : Mode). word_at (mode_words n) j) (mode_changed s shape i m h).new

    mode_elsewhere : (k : ℕ) → (k < 33 → k / 3 ≡ i → ⊥) → router_word (with_mode s i m) k ≡ router_word s k
    unfolding with_mode
    mode_elsewhere k other = go (dec_lt k 33)
      where
        go : Dec (k < 33) → router_word (with_mode s i m) k ≡ router_word s k
        go (yes l) = rw (lt-ltb k 33 l) (ap (λ (n : Mode). word_at (mode_words n) (k % 3)) ((mode_changed s shape i m h).others (k / 3) (other l)))
        go (no l) = rw (le-ltb k 33 (omega (arith, l)), lt-ltb i 11 h)

    pub mode_saved : with_mode_in (router_words s) i m ≡ router_words (with_mode s i m)
    unfolding with_mode_in
    mode_saved =
        let three = mode_length m in
        rw (lt-ltb i 11 h)
        (laid s (with_mode s i m) (3 * i) (mode_words m) (omega (arith, h, three))
        (λ j l. mode_there j (omega (arith, l, three)))
        (λ k l. mode_elsewhere k (λ b e. omega (arith, l, e)))
        (λ k l. mode_elsewhere k (λ b e. omega (arith, l, e, three))))

  module _ (o : ℕ) (out : Output) (h : o < 11) where
    abbrev row : List ℕ
    row = output_words out.owner out.last

    output_there : (j : ℕ) → j < 3 → router_word (with_output s o out) (3 * o + 33 + j) ≡ word_at row j
    output_there j l =
        output_word (with_output s o out) o j h l
        ∙ ap (λ (p : Output). word_at (output_words p.owner p.last) j) (output_changed s shape o out h).new

    output_elsewhere : (k : ℕ) → (33 ≤ k → k < 66 → (k - 33) / 3 ≡ o → ⊥) → router_word (with_output s o out) k ≡ router_word s k
    unfolding with_output
    output_elsewhere k other = go (dec_lt k 33) (dec_lt k 66)
      where
        go : Dec (k < 33) → Dec (k < 66) → router_word (with_output s o out) k ≡ router_word s k
        go (yes l) d = rw (lt-ltb k 33 l, lt-ltb o 11 h)
        go (no b) (yes l) =
            rw (le-ltb k 33 (omega (arith, b)), lt-ltb k 66 l)
            (ap (λ (p : Output). word_at (output_words p.owner p.last) (k % 3))
            ((output_changed s shape o out h).others ((k - 33) / 3) (other (omega (arith, b)) l)))
        go (no b) (no l) = rw (le-ltb k 33 (omega (arith, b)), le-ltb k 66 (omega (arith, l)), lt-ltb o 11 h)

    pub output_saved : with_output_in (router_words s) o out ≡ router_words (with_output s o out)
    unfolding with_output_in
    output_saved =
        let three = output_length out.owner out.last in
        rw (lt-ltb o 11 h)
        (laid s (with_output s o out) (3 * o + 33) row (omega (arith, h, three))
        (λ j l. output_there j (omega (arith, l, three)))
        (λ k l. output_elsewhere k (λ b d e. omega (arith, l, b, e)))
        (λ k l. output_elsewhere k (λ b d e. omega (arith, l, e, three))))

  module _ (k : ℕ) (st : Store) (h : k < 22) where
    store_there : (j : ℕ) → j < 2 → router_word (with_store s k st) (2 * k + 66 + j) ≡ word_at (store_words st) j
    store_there j l =
        store_word (with_store s k st) k j l ∙ ap (λ (now : Store). word_at (store_words now) j) (store_new s shape k st h)

    store_elsewhere : (n : ℕ) → (66 ≤ n → (n - 66) / 2 ≡ k → ⊥) → router_word (with_store s k st) n ≡ router_word s n
    unfolding with_store
    store_elsewhere n other = go (dec_lt n 66)
      where
        go : Dec (n < 66) → router_word (with_store s k st) n ≡ router_word s n
        go (yes l) = below (dec_lt n 33)
          where
            below : Dec (n < 33) → router_word (with_store s k st) n ≡ router_word s n
            below (yes b) = rw (lt-ltb n 33 b, lt-ltb k 22 h)
            below (no b) = rw (le-ltb n 33 (omega (arith, b)), lt-ltb n 66 l, lt-ltb k 22 h)
        go (no l) =
            rw (
              le-ltb n 33 (omega (arith, l)),
              le-ltb n 66 (omega (arith, l)),
              lt-ltb k 22 h,
              get_or-set_other s.stores k ((n - 66) / 2) st fresh_store (other (omega (arith, l))),
            )

    pub store_saved : with_store_in (router_words s) k st ≡ router_words (with_store s k st)
    unfolding with_store_in
    store_saved =
        rw (lt-ltb k 22 h)
        (laid s (with_store s k st) (2 * k + 66) (store_words st) (omega (arith, h))
        store_there
        (λ n l. store_elsewhere n (λ b e. omega (arith, l, b, e)))
        (λ n l. store_elsewhere n (λ b e. omega (arith, l, e))))
