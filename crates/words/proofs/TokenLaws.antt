-- Tokens by number and value: each case of the choice gives back what it was chosen by, or is the N-Char that is refused.
-- Assumes nothing.
use Prim.Native.Nat.{ℕ}
use mathlib.Core.Path.{◌≡◌, refl, sym, ◌∙◌}
use mathlib.Core.Bool.{Bool, true, false, true≢false}
use lib.Dec.{eqb, ltb}
use borrow.Author.Tests.{lt-ltb, eqb-true}
use Rattle.vocabulary.specs.Choice.{pick}
use Rattle.vocabulary.specs.Tokens.{kind_of, value_of, bad_char}
use Rattle.vocabulary.specs.declared.Token.{Token}
use Rattle.vocabulary.specs.declared.Token.TheVariants.{Null, Fct, NChar, TimeCode}
use Rattle.words.specs.Arguments.{no_token, bare, time_code, fitted, token_of, FitsToken, NamesTokens}

pub token_back : (t : Token) → FitsToken t → token_of (kind_of t) (value_of t) ≡ t
unfolding token_of
token_back Null h = refl
token_back Fct h = refl
token_back (NChar n) h = rw (lt-ltb n 65536 h)
token_back (TimeCode v) h = rw (lt-ltb v 256 h)

abbrev Named : ℕ → ℕ → Token → Type 0
Named kind value t = bad_char t ≡ false → (kind_of t ≡ kind) × (value_of t ≡ value)

chosen : (kind value number : ℕ) (this that : Token) → (kind ≡ number → Named kind value this) → Named kind value that →
    Named kind value (pick (eqb kind number) this that)
chosen kind value number this that f g = by (eqb kind number) refl
  where
    by : (b : Bool) → eqb kind number ≡ b → Named kind value (pick b this that)
    by true p = f (eqb-true kind number p)
    by false p = g

bare_named : (kind value : ℕ) (t : Token) → kind_of t ≡ kind → value_of t ≡ 0 → Named kind value (bare t value)
bare_named kind value t k z = by (eqb value 0) refl
  where
    by : (b : Bool) → eqb value 0 ≡ b → Named kind value (pick b t no_token)
    by true p h = (k, z ∙ sym (eqb-true value 0 p))
    by false p h = absurd (true≢false h)

n_char_named : (kind value : ℕ) → 3 ≡ kind → Named kind value (NChar (fitted value))
n_char_named kind value k = by (ltb value 65536)
  where
    by : (b : Bool) → Named kind value (NChar (pick b value 65535))
    by true h = (k, refl)
    by false h = absurd (true≢false h)

time_code_named : (kind value : ℕ) → 4 ≡ kind → Named kind value (time_code value)
time_code_named kind value k = by (ltb value 256)
  where
    by : (b : Bool) → Named kind value (pick b (TimeCode value) no_token)
    by true h = (k, refl)
    by false h = absurd (true≢false h)

none_named : (kind value : ℕ) → Named kind value no_token
none_named kind value h = absurd (true≢false h)

token_named : (kind value : ℕ) → Named kind value (token_of kind value)
unfolding token_of
token_named k v =
    chosen k v 1 _ _ (λ e. bare_named k v Null (sym e) refl)
    (chosen k v 2 _ _ (λ e. bare_named k v Fct (sym e) refl)
    (chosen k v 3 _ _ (λ e. n_char_named k v (sym e))
    (chosen k v 4 _ _ (λ e. time_code_named k v (sym e)) (none_named k v))))

pub names_tokens : NamesTokens
names_tokens = record { back = token_back; named = token_named }
