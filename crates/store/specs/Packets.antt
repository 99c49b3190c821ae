-- 01, Going to ErrorReset: a list of N-Chars "from the front through the first end".
-- Assumes nothing.
use Rattle.std.specs.Prelude.{ℕ, ◌+◌, Bool, false, ◌||◌, List, [], ◌∷◌}
use Rattle.vocabulary.specs.Choice.{pick}
use Rattle.vocabulary.specs.NChars.{is_end}

-- how many they are: all where there is no end
unfoldable pub through_end : List ℕ → ℕ
through_end [] = 0
through_end (n ∷ ns) = pick (is_end n) 1 (1 + through_end ns)

unfoldable pub holds_end : List ℕ → Bool
holds_end [] = false
holds_end (n ∷ ns) = is_end n || holds_end ns
