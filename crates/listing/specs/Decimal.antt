-- Numbers in a listing, in decimal and ASCII, and what it is for a text to be one.
-- Assumes nothing.
use Rattle.std.specs.Prelude.{◌≡◌, List, [], ◌∷◌, ◌++◌, ℕ, zero, suc, ◌+◌, ◌*◌, ◌-◌, ◌/◌, ◌%◌, ◌<◌, ◌≤◌, ltb}
use Prim.Native.Char.{code}
use Rattle.vocabulary.specs.Choice.{pick}

abbrev pub digit : ℕ → ℕ
digit d = code "0" + d

-- A number below ten is its digit; another is its tenth and then its last digit. At most so many places are written.
unfoldable pub decimal_in : ℕ → ℕ → List ℕ
decimal_in zero n = []
decimal_in (suc places) n = pick (ltb n 10) (digit n ∷ []) (decimal_in places (n / 10) ++ digit (n % 10) ∷ [])

-- No number of a listing is above 65,536, which has five places.
abbrev pub five_places : ℕ
five_places = 5

abbrev pub decimal : ℕ → List ℕ
decimal n = decimal_in five_places n

-- the number that digits say, behind those that said n
abbrev pub says : ℕ → List ℕ → ℕ
says n [] = n
says n (byte ∷ text) = says (n * 10 + (byte - code "0")) text

abbrev pub AllDigits : List ℕ → Type 0
AllDigits [] = Unit {0}
AllDigits (byte ∷ text) = (code "0" ≤ byte) × (byte ≤ code "9") × AllDigits text

-- it begins with another digit than '0', or has one digit alone
abbrev pub NoZeroInFront : List ℕ → Type 0
NoZeroInFront [] = ⊥
NoZeroInFront (byte ∷ []) = Unit {0}
NoZeroInFront (byte ∷ next ∷ text) = code "0" < byte

pub record IsDecimal (n : ℕ) (text : List ℕ) : Type 0 where
  pub digits : AllDigits text
  pub value : says 0 text ≡ n
  pub front : NoZeroInFront text
