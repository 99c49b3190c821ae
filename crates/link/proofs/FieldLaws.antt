-- A truth that a branch has read from the word of a field is the field's.
-- Assumes nothing.
use Prim.Native.Nat.{ℕ}
use mathlib.Core.Path.{◌≡◌, sym, ◌∙◌}
use mathlib.Core.Bool.{Bool}
use mathlib.Core.List.{List}
use Rattle.words.specs.Words.{word_at, truth_word, truth}
use Rattle.words.proofs.NumberLaws.{truth_back}
use Rattle.link.specs.Records.{Link}
use Rattle.link.specs.LinkWords.{link_words}

module _ {words : List ℕ} (l : Link) (e : words ≡ link_words l) where
  pub truth_read : (k : ℕ) (field : Bool) → word_at (link_words l) k ≡ truth_word field → {r : Bool} →
      r ≡ truth (word_at words k) → r ≡ field
  truth_read k field at read = (rw (e, at) at read) ∙ truth_back field

  pub truth_told : (k : ℕ) (field : Bool) → word_at (link_words l) k ≡ truth_word field → {r known : Bool} →
      r ≡ truth (word_at words k) → r ≡ known → field ≡ known
  truth_told k field at read is = sym (truth_read k field at read) ∙ is
