-- 01, Characters on the wire: a token as the bits that carry it.
-- Assumes nothing.
use Rattle.std.specs.Prelude.{ℕ, Bool, true, false, not, List, [], ◌∷◌, ◌++◌, eqb, ltb}
use Rattle.vocabulary.specs.Choice.{pick}
use Rattle.vocabulary.specs.NChars.{EOP}
use Rattle.vocabulary.specs.declared.Token.{Token}
use Rattle.vocabulary.specs.declared.Token.TheVariants.{Null, Fct, NChar, TimeCode}
use Rattle.characters.specs.Bits.{differ, odd, bits_of}

-- "Each character is a parity bit P, a flag, then its body."
pub record Character : Type 0 where
  pub flag : Bool
  pub body : List Bool

-- "Flag 0: eight data bits, least significant first."
abbrev pub data8 : ℕ → Character
data8 v = record { flag = false; body = bits_of 8 v }

-- "Flag 1: two bits, in sending order 00 FCT, 01 EOP, 10 EEP, 11 ESC."
abbrev pub control : Bool → Bool → Character
control a b = record { flag = true; body = a ∷ b ∷ [] }

abbrev pub fct : Character
fct = control false false

abbrev pub eop : Character
eop = control false true

abbrev pub eep : Character
eep = control true false

abbrev pub esc : Character
esc = control true true

-- "P makes the ones in the previous character's body, P and the flag together odd." The previous body matters only by
-- whether its ones are odd.
abbrev pub parity_bit : Bool → Bool → Bool
parity_bit previous flag = not (differ previous flag)

-- whether they are together odd
abbrev pub good_parity : Bool → Bool → Bool → Bool
good_parity previous p flag = differ previous (differ p flag)

-- the character of an N-Char; above 257 it is read as EEP
abbrev pub n_char_character : ℕ → Character
n_char_character n = pick (ltb n EOP) (data8 n) (pick (eqb n EOP) eop eep)

-- "ESC then FCT is NULL; ESC then a data character is a Time-Code."
abbrev pub characters_of : Token → List Character
characters_of Null = esc ∷ fct ∷ []
characters_of Fct = fct ∷ []
characters_of (NChar n) = n_char_character n ∷ []
characters_of (TimeCode v) = esc ∷ data8 v ∷ []

-- characters one after the other, behind a body whose ones are odd or not
abbrev pub wire : Bool → List Character → List Bool
wire previous [] = []
wire previous (c ∷ cs) = parity_bit previous c.flag ∷ c.flag ∷ c.body ++ wire (odd c.body) cs

-- whether the ones of the last body are odd, once these characters have been sent
abbrev pub last_odd : Bool → List Character → Bool
last_odd previous [] = previous
last_odd previous (c ∷ cs) = last_odd (odd c.body) cs

-- the bits that carry a token
abbrev pub wire_of : Bool → Token → List Bool
wire_of previous t = wire previous (characters_of t)
