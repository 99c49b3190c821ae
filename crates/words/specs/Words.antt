-- A state is an array of words of 32 bits that its caller keeps, one for each field. Any words may be handed in. They are a
-- state where the words of what they mean are those words.
-- Assumes nothing.
use Rattle.std.specs.Prelude.{ℕ, ◌%◌, ◌^◌, ◌≡◌, Bool, true, false, not, ◌&&◌, List, [], ◌∷◌, get_or, eqb}
use Rattle.vocabulary.specs.Choice.{pick}

abbrev pub word_at : List ℕ → ℕ → ℕ
word_at words k = get_or words k 0

-- a truth as a word, and a word as a truth, as C has them: 0 is false, anything else true
abbrev pub truth_word : Bool → ℕ
truth_word b = pick b 1 0

abbrev pub truth : ℕ → Bool
truth word = not (eqb word 0)

-- the part of a word that a field of eight bits takes, and of a number that a word takes
abbrev pub byte : ℕ → ℕ
byte word = word % 256

abbrev pub narrow : ℕ → ℕ
narrow n = n % 2 ^ 32

unfoldable pub same : List ℕ → List ℕ → Bool
same [] [] = true
same [] (w ∷ ws) = false
same (v ∷ vs) [] = false
same (v ∷ vs) (w ∷ ws) = eqb v w && same vs ws

-- what a call on a state of words leaves: the refusal, the words, and the other answers, zero when it is refused
pub record Left : Type 0 where
  pub refusal : ℕ
  pub state : List ℕ
  pub out : List ℕ

-- "State, stores and the time record stay; other answers are zero": of a call that is refused
abbrev pub Stays : List ℕ → List ℕ → Left → Type 0
Stays words zeros left = (left.refusal ≡ 0 → ⊥) → (left.state ≡ words) × (left.out ≡ zeros)
