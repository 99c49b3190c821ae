-- 01, Characters on the wire: "An N-Char is data, EOP or EEP. Stores hold numbers: 0 to 255 data, 256 EOP, 257 EEP."
-- Assumes nothing.
use Rattle.std.specs.Prelude.{ℕ, Bool, leb, ltb}
use Rattle.vocabulary.specs.Choice.{pick}

abbrev pub EOP : ℕ
EOP = 256

abbrev pub EEP : ℕ
EEP = 257

-- "A stored number above 257 is read as 257."
abbrev pub read_as : ℕ → ℕ
read_as n = pick (ltb 257 n) 257 n

-- EOP and EEP end a packet; a stored number above 257 is read as EEP, so it does too.
abbrev pub is_end : ℕ → Bool
is_end n = leb EOP n

-- 01, The ten refusals, 5 CHAR: "N-Char above 257".
abbrev pub above_eep : ℕ → Bool
above_eep n = ltb EEP n
