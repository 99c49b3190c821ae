-- A number's decimal says the number, in digits, with no zero in front: its tenth's does, and its last digit stands behind.
-- Assumes nothing.
use borrow.Author.Tests.{ltb-true, ltb-false}
use mathlib.Core.Path.{◌≡◌, refl, ◌∙◌}
use mathlib.Core.Bool.{Bool, true, false}
use mathlib.Core.List.{List, [], ◌∷◌, ◌++◌}
use Prim.Native.Nat.{ℕ, zero, suc, ◌+◌, ◌*◌, ◌-◌, ◌/◌, ◌%◌, ◌<◌, ◌≤◌}
use Prim.Native.Char.{code}
use native.Mathlib.Omega.{arith}
use lib.Dec.{ltb}
use Rattle.vocabulary.specs.Choice.{pick}
use Rattle.listing.specs.Decimal.{digit, decimal_in, says, AllDigits, NoZeroInFront}
use Rattle.listing.specs.Claims.{DecimalsAreRight}

-- the first number with more places
abbrev most : ℕ → ℕ
most zero = 1
most (suc places) = 10 * most places

abbrev NoZeroFirst : List ℕ → Type 0
NoZeroFirst [] = ⊥
NoZeroFirst (byte ∷ text) = code "0" < byte

pub record Right (n : ℕ) (text : List ℕ) : Type 0 where
  pub digits : AllDigits text
  pub value : says 0 text ≡ n
  pub first : 0 < n → NoZeroFirst text

says_last : (m : ℕ) (text : List ℕ) (byte : ℕ) → says m (text ++ byte ∷ []) ≡ says m text * 10 + (byte - code "0")
says_last m [] byte = refl
says_last m (first ∷ text) byte = says_last (m * 10 + (first - code "0")) text byte

digits_last : (text : List ℕ) (d : ℕ) → d < 10 → AllDigits text → AllDigits (text ++ digit d ∷ [])
digits_last [] d small all = (omega arith, omega arith, tt)
digits_last (byte ∷ text) d small all = (all.0, all.1, digits_last text d small all.2)

first_still : (text more : List ℕ) → NoZeroFirst text → NoZeroFirst (text ++ more)
first_still [] more h = elim h [ ]
first_still (byte ∷ text) more h = h

front_of_first : (text : List ℕ) → NoZeroFirst text → NoZeroInFront text
front_of_first [] h = elim h [ ]
front_of_first (byte ∷ []) h = tt
front_of_first (byte ∷ next ∷ text) h = h

one_digit : (n : ℕ) → n < 10 → Right n (digit n ∷ [])
one_digit n small = record { digits = (omega arith, omega arith, tt); value = omega arith; first = λ h. omega arith }

more_digits : (n : ℕ) (text : List ℕ) → 10 ≤ n → Right (n / 10) text → Right n (text ++ digit (n % 10) ∷ [])
more_digits n text large tenth =
    record {
      digits = digits_last text (n % 10) (omega arith) tenth.digits;
      value = says_last 0 text (digit (n % 10)) ∙ rw tenth.value (omega arith);
      first = λ h. first_still text (digit (n % 10) ∷ []) (tenth.first (omega arith));
    }

right : (places n : ℕ) → n < most places → Right n (decimal_in places n)
unfolding decimal_in
right zero n h = record { digits = tt; value = omega arith; first = λ some. absurd (omega arith) }
right (suc places) n h = either (ltb n 10) refl (right places (n / 10) (omega arith))
  where
    either : (small : Bool) → ltb n 10 ≡ small → Right (n / 10) (decimal_in places (n / 10)) →
        Right n (pick small (digit n ∷ []) (decimal_in places (n / 10) ++ digit (n % 10) ∷ []))
    either true e tenth = one_digit n (ltb-true n 10 e)
    either false e tenth = more_digits n (decimal_in places (n / 10)) (ltb-false n 10 e) tenth

fronted : (places n : ℕ) → n < most (suc places) → NoZeroInFront (decimal_in (suc places) n)
unfolding decimal_in
fronted places n h = either (ltb n 10) refl (right (suc places) n h).first
  where
    either : (small : Bool) → ltb n 10 ≡ small →
        let text = pick small (digit n ∷ []) (decimal_in places (n / 10) ++ digit (n % 10) ∷ []) in
        (0 < n → NoZeroFirst text) → NoZeroInFront text
    either true e first = tt
    either false e first =
        let large = ltb-false n 10 e in
        front_of_first (decimal_in places (n / 10) ++ digit (n % 10) ∷ []) (first (omega arith))

pub decimals_are_right : DecimalsAreRight
decimals_are_right n h =
    let whole = right 5 n h in record { digits = whole.digits; value = whole.value; front = fronted 4 n h }
