-- A row of words: read from where it stands, and written in place of what stands there.
-- Assumes nothing.
use Rattle.std.proofs.Common.{◌≡◌, ℕ, ◌+◌, ◌*◌, ◌<◌, Bool, true, false, List, Some, None, length, [], ◌∷◌, suc, take, drop, ltb, refl, ap, ◌∙◌, arith}
use Rattle.std.proofs.lemmas.List.{get_or-take, get_or-drop}
use Rattle.std.proofs.lemmas.List.Edits.{sets}
use Rattle.std.proofs.Math.ListN.{set}
use borrow.Author.Tests.{ltb-true}
use Rattle.vocabulary.specs.Choice.{pick}
use Rattle.words.specs.Words.{word_at}
use Rattle.router_ports.specs.Ports.{mode_at, output_at}
use Rattle.router_ports.specs.RouterWords.{row_in, mode_of, owner_of, input_in, output_in, router_of}
use Rattle.router_ports.proofs.PlaceWords.{mode_in, output_in_lem}

pub row_written : (words : List ℕ) (at : ℕ) (row : List ℕ) → length row ≡ 3 →
    set (set (set words at (word_at row 0)) (at + 1) (word_at row 1)) (at + 2) (word_at row 2) ≡ sets words at row
row_written words at [] e = absurd (omega (arith, e))
row_written words at (a ∷ []) e = absurd (omega (arith, e))
row_written words at (a ∷ b ∷ []) e = absurd (omega (arith, e))
row_written words at (a ∷ b ∷ c ∷ []) e =
    rw (let one : at + 1 ≡ suc at = omega arith in one, let two : at + 2 ≡ suc (suc at) = omega arith in two)
row_written words at (a ∷ b ∷ c ∷ d ∷ ds) e = absurd (omega (arith, e))

pub word_taken : (words : List ℕ) (at n j : ℕ) → j < n → word_at (take n (drop at words)) j ≡ word_at words (at + j)
word_taken words at n j h = get_or-take n (drop at words) j 0 h ∙ get_or-drop at words j 0

abbrev row_at : List ℕ → ℕ → List ℕ
row_at words at = word_at words at ∷ word_at words (at + 1) ∷ word_at words (at + 2) ∷ []

module _ (from : ℕ) (words : List ℕ) (k : ℕ) (row : List ℕ) (is : row_in from words k ≡ Some row) where
  pub row_within : k < 11
  row_within = go (ltb k 11) refl is
    where
      go : (b : Bool) → ltb k 11 ≡ b → pick b (Some (row_at words (from + 3 * k))) None ≡ Some row → k < 11
      go true e s = ltb-true k 11 e
      go false e s = absurd cc

  -- the words of a row that begins `at`
  pub row_is : (at : ℕ) → from + 3 * k ≡ at → row ≡ row_at words at
  row_is at e = go (ltb k 11) is ∙ ap (row_at words) e
    where
      go : (b : Bool) → pick b (Some (row_at words (from + 3 * k))) None ≡ Some row → row ≡ row_at words (from + 3 * k)
      go true s = cc
      go false s = absurd cc

-- what is kept of a port, from its row

module _ (words : List ℕ) (p : ℕ) (row : List ℕ) where
  pub mode_row : row_in 0 words p ≡ Some row →
      mode_at (router_of words) p ≡ mode_of (word_at row 0) (word_at row 1) (word_at row 2)
  unfolding input_in
  mode_row is =
      let e : 0 + 3 * p ≡ 3 * p = omega arith in
      rw (mode_in words p (row_within 0 words p row is), row_is 0 words p row is (3 * p) e)

  pub output_row : row_in 33 words p ≡ Some row →
      output_at (router_of words) p ≡ record { owner = owner_of (word_at row 0) (word_at row 1); last = word_at row 2 }
  unfolding output_in
  output_row is =
      let e : 33 + 3 * p ≡ 3 * p + 33 = omega arith in
      rw (output_in_lem words p (row_within 33 words p row is), row_is 33 words p row is (3 * p + 33) e)
