-- The bits of each character as a number.
-- Assumes nothing.
use mathlib.Core.Path.{◌≡◌, refl, sym, ap, ◌∙◌}
use mathlib.Core.Bool.{Bool, true, false}
use mathlib.Core.List.{List, [], ◌∷◌, ◌++◌, append-nil}
use Prim.Native.Nat.{ℕ, ◌+◌, ◌-◌, ◌*◌, ◌<◌}
use native.Mathlib.Nat.{add_assoc}
use native.Mathlib.Omega.{arith}
use Rattle.vocabulary.specs.declared.Token.{Token}
use Rattle.vocabulary.specs.declared.Token.TheVariants.{Null, Fct, NChar, TimeCode}
use Rattle.characters.specs.Bits.{bit, odd, number, bits_of}
use Rattle.characters.specs.Wire.{Character, wire, data8, control, esc, characters_of, last_odd}
use Rattle.characters.proofs.BitLaws.{number_bits, number_behind}

-- of a control character the parity bit tells whether the ones before it are odd
control_number : (o a b : Bool) (cs : List Character) →
    number (wire o (control a b ∷ cs)) ≡ bit o + number (false ∷ true ∷ a ∷ b ∷ wire (odd (a ∷ b ∷ [])) cs)
control_number true a b cs = omega arith
control_number false a b cs = omega arith

last_body : (v : ℕ) → v < 256 → number (bits_of 8 v ++ []) ≡ v
last_body v h = ap number (append-nil (bits_of 8 v)) ∙ number_bits 8 v h

pub data_number : (o : Bool) (v : ℕ) → v < 256 → number (wire o (data8 v ∷ [])) ≡ (1 - bit o) + 4 * v
data_number true v h = number_behind false false (bits_of 8 v ++ []) v (last_body v h) ∙ omega arith
data_number false v h = number_behind true false (bits_of 8 v ++ []) v (last_body v h) ∙ omega arith

-- behind an ESC, whose body's ones are even, the parity bit of data is 1
escaped_data : (v : ℕ) → v < 256 → number (true ∷ false ∷ bits_of 8 v ++ []) ≡ 1 + 4 * v
escaped_data v h = number_behind true false (bits_of 8 v ++ []) v (last_body v h) ∙ omega arith

-- an ESC behind an even body, then the data
escape_number : (v : ℕ) → v < 256 → number (false ∷ true ∷ true ∷ true ∷ true ∷ false ∷ bits_of 8 v ++ []) ≡ 30 + 64 * v
escape_number v h =
    number_behind false true (true ∷ true ∷ true ∷ false ∷ bits_of 8 v ++ []) _
    (number_behind true true (true ∷ false ∷ bits_of 8 v ++ []) _ (escaped_data v h))
    ∙ omega arith

pub time_code_number : (o : Bool) (v : ℕ) → v < 256 → number (wire o (esc ∷ data8 v ∷ [])) ≡ bit o + 30 + 64 * v
time_code_number o v h =
    control_number o true true (data8 v ∷ [])
    ∙ ap (λ (n : ℕ). bit o + n) (escape_number v h)
    ∙ sym (add_assoc (bit o) 30 (64 * v))

-- What came before decides the parity bit alone, not the last body.
pub last_of_any : (o : Bool) (t : Token) → last_odd false (characters_of t) ≡ last_odd o (characters_of t)
last_of_any o Null = refl
last_of_any o Fct = refl
last_of_any o (NChar n) = refl
last_of_any o (TimeCode v) = refl
