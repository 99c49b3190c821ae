-- The credit rule as an end rests on it, alone or joined to another. 01, Easy to get wrong: "Granting an FCT because eight
-- places are free, forgetting what is already given out and the EEP's place."
-- Assumes nothing.
use Rattle.std.specs.Prelude.{◌≡◌, Bool, true, ◌&&◌, ℕ, ◌+◌, ◌≤◌, ◌<◌, leb}
use Rattle.link.specs.Credit.{may_grant}

-- Once an FCT is sent, what is given out is at most 56, and one place is free beside those given out.
abbrev pub GrantsSafely : (ℕ → ℕ → Bool) → Type 0
GrantsSafely rule = (given free : ℕ) → rule given free ≡ true → (given + 8 ≤ 56) × (given + 8 < free)

-- the rule without what is already given out, and the rule without the EEP's place
abbrev pub forgets_given : ℕ → ℕ → Bool
forgets_given given free = leb 9 free

abbrev pub forgets_eep : ℕ → ℕ → Bool
forgets_eep given free = leb given 48 && leb (given + 8) free

-- 01's rule is safe, and neither of the two is
pub record CreditRule : Type 0 where
  pub safe : GrantsSafely may_grant
  pub given_counts : GrantsSafely forgets_given → ⊥
  pub eep_place_counts : GrantsSafely forgets_eep → ⊥
