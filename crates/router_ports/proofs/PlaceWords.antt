-- What is kept of a port or store, read from its words alone; and the words that a row is saved as.
-- Assumes nothing.
use Rattle.std.specs.Prelude.{Option, None, Some}
use Prim.Native.Nat.{ℕ, ◌+◌, ◌-◌, ◌*◌, ◌/◌, ◌%◌, ◌<◌}
use mathlib.Core.Path.{◌≡◌, refl, ap, ◌∙◌}
use mathlib.Core.List.{List}
use native.Mathlib.Omega.{arith}
use lib.ListN.{length}
use lib.Seq.{sets}
use lib.Dec.{ltb}
use mathlib.Core.Bool.{Bool, true, false}
use Rattle.vocabulary.specs.Choice.{pick}
use Rattle.store.specs.declared.Store.{Store}
use borrow.Author.Tests.{lt-ltb, le-ltb}
use Rattle.words.specs.Words.{word_at}
use Rattle.store.specs.Changes.{fresh_store}
use Rattle.router_ports.specs.Ports.{idle, no_output, mode_at, output_at, store_at}
use Rattle.router_ports.specs.declared.Mode.{Mode}
use Rattle.router_ports.specs.declared.Mode.TheVariants.{Idle, Waiting, Routed, Spilling}
use Rattle.store.specs.StoreWords.{store_words}
use Rattle.router_ports.specs.Records.{Router}
use Rattle.router_ports.specs.RouterWords.{mode_words, output_words, router_word, router_words, with_store_in}
use Rattle.router_ports.specs.RouterWords.{input_in, output_in, store_in, router_of}
use Rattle.router_ports.proofs.ListedLaws.{get_or_listed}

zero_add : (i : ℕ) → 0 + i ≡ i
zero_add i = omega arith

pub nothing_more : (i : ℕ) → i ≡ i + 0
nothing_more i = omega arith

module _ (words : List ℕ) where
  pub mode_in : (i : ℕ) → i < 11 → mode_at (router_of words) i ≡ (input_in words i).mode
  unfolding router_of
  mode_in i h = rw (lt-ltb i 11 h, get_or_listed (input_in words) 0 11 i idle h, zero_add i)

  pub output_in_lem : (o : ℕ) → o < 11 → output_at (router_of words) o ≡ output_in words o
  unfolding router_of
  output_in_lem o h = rw (lt-ltb o 11 h, get_or_listed (output_in words) 0 11 o no_output h, zero_add o)

  pub store_in_lem : (k : ℕ) → k < 22 → store_at (router_of words) k ≡ store_in words k
  unfolding router_of
  store_in_lem k h = rw (lt-ltb k 22 h, get_or_listed (store_in words) 0 22 k fresh_store h, zero_add k)

pub mode_length : (m : Mode) → length (mode_words m) ≡ 3
mode_length Idle = refl
mode_length (Waiting w) = refl
mode_length (Routed o) = refl
mode_length Spilling = refl

pub output_length : (w : Option ℕ) (last : ℕ) → length (output_words w last) ≡ 3
output_length None last = refl
output_length (Some i) last = refl

-- a store past the last is not changed, whatever it would hold
pub store_picked : (words : List ℕ) (k : ℕ) (st old : Store) →
    with_store_in words k (pick (ltb k 22) st old) ≡ with_store_in words k st
unfolding with_store_in
store_picked words k st old = go (ltb k 22)
  where
    go : (b : Bool) → pick b (sets words (2 * k + 66) (store_words (pick b st old))) words
        ≡ pick b (sets words (2 * k + 66) (store_words st)) words
    go true = refl
    go false = refl

-- where each word of a router is saved

module _ (r : Router) where
  pub mode_word : (p j : ℕ) → p < 11 → j < 3 → router_word r (3 * p + j) ≡ word_at (mode_words (mode_at r p)) j
  mode_word p j h l =
      rw (
        lt-ltb (3 * p + j) 33 (omega (arith, h, l)),
        let e : (3 * p + j) / 3 ≡ p = omega (arith, l) in e,
        let e : (3 * p + j) % 3 ≡ j = omega (arith, l) in e,
      )

  pub output_word : (p j : ℕ) → p < 11 → j < 3 →
      router_word r (3 * p + 33 + j) ≡ word_at (output_words (output_at r p).owner (output_at r p).last) j
  output_word p j h l =
      rw (
        le-ltb (3 * p + 33 + j) 33 (omega arith),
        lt-ltb (3 * p + 33 + j) 66 (omega (arith, h, l)),
        let e : (3 * p + 33 + j - 33) / 3 ≡ p = omega (arith, l) in e,
        let e : (3 * p + 33 + j) % 3 ≡ j = omega (arith, l) in e,
      )

  pub store_word : (k j : ℕ) → j < 2 → router_word r (2 * k + 66 + j) ≡ word_at (store_words (store_at r k)) j
  store_word k j l =
      rw (
        le-ltb (2 * k + 66 + j) 33 (omega arith),
        le-ltb (2 * k + 66 + j) 66 (omega arith),
        let e : (2 * k + 66 + j - 66) / 2 ≡ k = omega (arith, l) in e,
        let e : (2 * k + 66 + j) % 2 ≡ j = omega (arith, l) in e,
      )

  pub saved_word : (k : ℕ) → k < 110 → word_at (router_words r) k ≡ router_word r k
  unfolding router_words
  saved_word k h = get_or_listed (router_word r) 0 110 k 0 h ∙ ap (router_word r) (zero_add k)
