-- What is counted on a wire adds up when tokens follow others; and tokens that are never refused as CHAR.
-- Assumes nothing.
use mathlib.Core.Path.{◌≡◌, refl, ap}
use mathlib.Core.List.{List, [], ◌∷◌, ◌++◌}
use Prim.Native.Nat.{ℕ, ◌+◌}
use native.Mathlib.Omega.{arith}
use lib.ListN.{length, length-append}
use Rattle.vocabulary.specs.declared.Token.{Token}
use Rattle.vocabulary.specs.declared.Token.TheVariants.{Null, Fct, NChar, TimeCode}
use Rattle.link_laws.specs.Tokens.{fcts_on, n_chars_on}
use Rattle.link_laws.proofs.PassLaws.{Whole}

pub fcts_append : (ts us : List Token) → fcts_on (ts ++ us) ≡ fcts_on ts + fcts_on us
fcts_append [] us = omega arith
fcts_append (Null ∷ ts) us = fcts_append ts us
fcts_append (Fct ∷ ts) us = omega (arith, fcts_append ts us)
fcts_append (NChar n ∷ ts) us = fcts_append ts us
fcts_append (TimeCode v ∷ ts) us = fcts_append ts us

pub nchars_append : (ts us : List Token) → n_chars_on (ts ++ us) ≡ n_chars_on ts ++ n_chars_on us
nchars_append [] us = refl
nchars_append (Null ∷ ts) us = nchars_append ts us
nchars_append (Fct ∷ ts) us = nchars_append ts us
nchars_append (NChar n ∷ ts) us = ap (λ (ns : List ℕ). n ∷ ns) (nchars_append ts us)
nchars_append (TimeCode v ∷ ts) us = nchars_append ts us

pub nchars_add : (ts us : List Token) →
    length (n_chars_on (ts ++ us)) ≡ length (n_chars_on ts) + length (n_chars_on us)
nchars_add ts us = rw (nchars_append ts us) (length-append (n_chars_on ts) (n_chars_on us))

pub whole_append : (ts us : List Token) → Whole ts → Whole us → Whole (ts ++ us)
whole_append [] us w v = v
whole_append (t ∷ ts) us w v = (w.0, whole_append ts us w.1 v)

pub whole_behind : (ts us : List Token) → Whole (ts ++ us) → Whole us
whole_behind [] us w = w
whole_behind (t ∷ ts) us w = whole_behind ts us w.1
