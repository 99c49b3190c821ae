-- What goes over a link, and the paper's number and value for each.
-- Assumes nothing.
use Rattle.std.specs.Prelude.{ℕ, Bool, false}
use Rattle.vocabulary.specs.NChars.{above_eep}
use Rattle.vocabulary.specs.declared.Token.{Token}
use Rattle.vocabulary.specs.declared.Token.TheVariants.{Null, Fct, NChar, TimeCode}

-- Tokens in the paper's order, "one of NULL, FCT, N-Char, Time-Code", from 1. 0 is no token.
abbrev pub kind_of : Token → ℕ
kind_of Null = 1
kind_of Fct = 2
kind_of (NChar n) = 3
kind_of (TimeCode v) = 4

-- The number of an N-Char, as stores hold it, and the eight bits of a Time-Code; 0 for a token that carries nothing.
abbrev pub value_of : Token → ℕ
value_of Null = 0
value_of Fct = 0
value_of (NChar n) = n
value_of (TimeCode v) = v

-- 5 CHAR, of a token: it is an N-Char above 257.
abbrev pub bad_char : Token → Bool
bad_char Null = false
bad_char Fct = false
bad_char (NChar n) = above_eep n
bad_char (TimeCode v) = false
