-- The words of a router: three for each input (its mode, a value, high priority), three for each output (its owner, the
-- input that holds it, the last granted input), two for each store (front, length).
-- Assumes nothing.
use Rattle.std.specs.Prelude.{ℕ, ◌+◌, ◌*◌}

abbrev pub PORTS : ℕ
PORTS = 11

abbrev pub STORES : ℕ
STORES = 2 * PORTS

-- where the words of the outputs and those of the stores begin, and how many words there are
abbrev pub outputs_from : ℕ
outputs_from = 3 * PORTS

abbrev pub stores_from : ℕ
stores_from = outputs_from + 3 * PORTS

abbrev pub WORDS : ℕ
WORDS = stores_from + 2 * STORES
