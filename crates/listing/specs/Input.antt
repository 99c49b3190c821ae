-- 01, The listing: what the bytes of an input are.
-- Assumes nothing.
use Rattle.std.specs.Prelude.{Bool, true, false, ◌||◌, List, [], ◌∷◌, ◌++◌, ℕ, eqb}
use Prim.Native.Char.{code}
use Rattle.vocabulary.specs.Choice.{pick}

-- the bit that a byte is, if it is one
abbrev pub bit_of : ℕ → List Bool
bit_of byte = pick (eqb byte (code "0")) (false ∷ []) (pick (eqb byte (code "1")) (true ∷ []) [])

-- "Spaces, LF and CR are skipped"
abbrev pub is_skipped : ℕ → Bool
is_skipped byte = eqb byte (code " ") || (eqb byte (code "\n") || eqb byte (code "\r"))

-- "another byte gives `BAD`": a byte that is good is a bit or is skipped
abbrev pub is_good : ℕ → Bool
is_good byte = eqb byte (code "0") || (eqb byte (code "1") || is_skipped byte)

-- the bytes before the first that is bad; all where none is
unfoldable pub good : List ℕ → List ℕ
good [] = []
good (byte ∷ bytes) = pick (is_good byte) (byte ∷ good bytes) []

-- the bits among good bytes
unfoldable pub bits_in : List ℕ → List Bool
bits_in [] = []
bits_in (byte ∷ bytes) = bit_of byte ++ bits_in bytes
