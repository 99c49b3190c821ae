-- What tokens carry: of a list of them, in order, how many are FCTs, and the N-Chars.
-- Assumes nothing.
use Rattle.std.specs.Prelude.{List, [], ◌∷◌, ℕ, suc, Option, None, Some}
use Rattle.vocabulary.specs.declared.Token.{Token}
use Rattle.vocabulary.specs.declared.Token.TheVariants.{Null, Fct, NChar, TimeCode}

abbrev pub fcts_on : List Token → ℕ
fcts_on [] = 0
fcts_on (Null ∷ ts) = fcts_on ts
fcts_on (Fct ∷ ts) = suc (fcts_on ts)
fcts_on (NChar n ∷ ts) = fcts_on ts
fcts_on (TimeCode v ∷ ts) = fcts_on ts

abbrev pub n_chars_on : List Token → List ℕ
n_chars_on [] = []
n_chars_on (Null ∷ ts) = n_chars_on ts
n_chars_on (Fct ∷ ts) = n_chars_on ts
n_chars_on (NChar n ∷ ts) = n ∷ n_chars_on ts
n_chars_on (TimeCode v ∷ ts) = n_chars_on ts

-- what a send gave out
abbrev pub tokens_of : Option Token → List Token
tokens_of None = []
tokens_of (Some t) = t ∷ []
