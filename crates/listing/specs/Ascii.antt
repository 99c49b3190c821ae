-- Texts as the bytes that carry them.
-- Assumes nothing.
use Rattle.std.specs.Prelude.{List, [], ◌∷◌, ℕ}
use Prim.Native.Char.{code}
use Prim.Native.String.{String, [] as empty, ◌∷◌ as ◌then◌}

abbrev pub ascii : String → List ℕ
ascii empty = []
ascii (c then s) = code c ∷ ascii s
