-- The credit rule's two tests say what an end needs of it; where one is forgotten, numbers show that it is missed.
-- Assumes nothing.
use mathlib.Core.Path.{refl}
use Prim.Native.Nat.{◌+◌}
use native.Mathlib.Omega.{arith}
use lib.Dec.{leb}
use borrow.Author.Tests.{leb-true}
use Rattle.link.specs.Credit.{may_grant}
use Rattle.link_laws.specs.Grant.{GrantsSafely, CreditRule}
use Rattle.link_laws.proofs.TestLaws.{and_left, and_right}

grants_safely : GrantsSafely may_grant
grants_safely given free may = (
  omega (arith, leb-true given 48 (and_left (leb given 48) (leb (given + 9) free) may)),
  omega (arith, leb-true (given + 9) free (and_right (leb given 48) (leb (given + 9) free) may)),
)

pub credit_rule : CreditRule
credit_rule =
    record {
      safe = grants_safely;
      given_counts = λ safe. omega (arith, safe 49 9 refl);
      eep_place_counts = λ safe. omega (arith, safe 0 8 refl);
    }
