-- Numbers that are handed to a call as words. One that does not fit what the call takes is read as the largest that does, or
-- as an N-Char that is none, which the call then refuses in its own order.
-- Assumes nothing.
use Rattle.std.specs.Prelude.{ℕ, ◌<◌, ◌≡◌, false, eqb, ltb, Result, Ok, Err}
use Rattle.vocabulary.specs.Choice.{pick}
use Rattle.vocabulary.specs.declared.Refusal.{Refusal}
use Rattle.vocabulary.specs.Refusals.{CHAR}
use Rattle.vocabulary.specs.Tokens.{kind_of, value_of, bad_char}
use Rattle.vocabulary.specs.declared.Token.{Token}
use Rattle.vocabulary.specs.declared.Token.TheVariants.{Null, Fct, NChar, TimeCode}

-- an N-Char or a limit of rounds, in 16 bits: no larger one is accepted anywhere
abbrev pub fitted : ℕ → ℕ
fitted n = pick (ltb n 65536) n 65535

-- an N-Char above 257
abbrev pub no_token : Token
no_token = NChar 65535

abbrev pub bare : Token → ℕ → Token
bare t value = pick (eqb value 0) t no_token

abbrev pub time_code : ℕ → Token
time_code value = pick (ltb value 256) (TimeCode value) no_token

-- the token with this number and value
unfoldable pub token_of : ℕ → ℕ → Token
token_of kind value =
    pick (eqb kind 1) (bare Null value)
    (pick (eqb kind 2) (bare Fct value)
    (pick (eqb kind 3) (NChar (fitted value))
    (pick (eqb kind 4) (time_code value) no_token)))

-- the token, or CHAR where a number and a value name none
abbrev pub named : Token → Result Token Refusal
named t = pick (bad_char t) (Err CHAR) (Ok t)

-- numbers that fit their places: an N-Char's 16 bits, a Time-Code's eight
abbrev pub FitsToken : Token → Type 0
FitsToken Null = Unit {0}
FitsToken Fct = Unit {0}
FitsToken (NChar n) = n < 65536
FitsToken (TimeCode v) = v < 256

-- a token's number and value give it back, and a pair that no token has is refused as CHAR wherever a token is
pub record NamesTokens : Type 0 where
  pub back : (t : Token) → FitsToken t → token_of (kind_of t) (value_of t) ≡ t
  pub named : (kind value : ℕ) → bad_char (token_of kind value) ≡ false →
      (kind_of (token_of kind value) ≡ kind) × (value_of (token_of kind value) ≡ value)
