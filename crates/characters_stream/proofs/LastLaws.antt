-- Induction on a list from its last member.
-- Assumes nothing.
use mathlib.Core.List.{List, [], ◌∷◌, ◌++◌, append-nil}
use lib.Seq.{append_snoc}

-- what holds of no member, and of one more behind others where it holds of those, holds of every list
pub by_last : {A : Type 0} (P : List A → Type 0) → P [] → ((xs : List A) (x : A) → P xs → P (xs ++ x ∷ [])) →
    (xs : List A) → P xs
by_last {A} P start more xs = from [] start xs
  where
    from : (seen : List A) → P seen → (xs : List A) → P (seen ++ xs)
    from seen h [] = rw append-nil h
    from seen h (x ∷ xs) = rw append_snoc at (from (seen ++ x ∷ []) (more seen x h) xs)
