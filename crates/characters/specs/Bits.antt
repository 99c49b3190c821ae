-- Lists of bits in the order in which they go over the wire, and the numbers that they make.
-- Assumes nothing.
use Rattle.std.specs.Prelude.{ℕ, zero, suc, ◌+◌, ◌*◌, ◌/◌, ◌%◌, Bool, true, false, not, List, [], ◌∷◌, eqb}

-- a bit as a number
abbrev pub bit : Bool → ℕ
bit true = 1
bit false = 0

-- whether just one of two bits is 1
abbrev pub differ : Bool → Bool → Bool
differ true b = not b
differ false b = b

-- whether the ones in a list of bits are odd in number
abbrev pub odd : List Bool → Bool
odd [] = false
odd (b ∷ bs) = differ b (odd bs)

-- "least significant first": the number that a list of bits makes
abbrev pub number : List Bool → ℕ
number [] = 0
number (b ∷ bs) = bit b + 2 * number bs

-- "least significant first": the k lowest bits of a number
abbrev pub bits_of : ℕ → ℕ → List Bool
bits_of zero n = []
bits_of (suc k) n = eqb (n % 2) 1 ∷ bits_of k (n / 2)
