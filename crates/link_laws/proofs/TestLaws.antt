-- Choices and tests: what holds of both sides of a choice, parts of a test that holds, and the tests of a call that is
-- not refused.
-- Assumes nothing.
use mathlib.Core.Path.{◌≡◌, refl}
use mathlib.Core.Bool.{Bool, true, false, not, ◌||◌, ◌&&◌, true≢false, false≢true}
use mathlib.Core.List.{List, [], ◌∷◌}
use Prim.Native.Nat.{ℕ, zero, suc, ◌<◌}
use native.Mathlib.Nat.{not-suc-le-zero, le_of_suc-le-suc}
use lib.Dec.{T}
use lib.ListN.{length, get_or}
use Rattle.vocabulary.specs.Choice.{pick}
use Rattle.vocabulary.specs.Refusals.{STATE, Test, test, first_of}
use Rattle.vocabulary.proofs.RefusalLaws.{passed, passed_later}

-- what holds of each side of a choice, where its test lets it be taken, holds of the choice
pub either_way : {A : Type 0} (P : A → Type 0) (test : Bool) (this that : A) →
    (test ≡ true → P this) → (test ≡ false → P that) → P (pick test this that)
either_way P true this that f g = f refl
either_way P false this that f g = g refl

pub and_left : (a b : Bool) → a && b ≡ true → a ≡ true
and_left true b h = refl
and_left false b h = h

pub and_right : (a b : Bool) → a && b ≡ true → b ≡ true
and_right true b h = h
and_right false b h = absurd (false≢true h)

-- where a test holds and neither of its first two parts does
or_then : (a b : Bool) → T (a || b) → a ≡ false → T b
or_then true b t h = absurd (true≢false h)
or_then false b t h = t

not_then : (b : Bool) → T (not b) → b ≡ false
not_then true t = absurd t
not_then false t = refl

pub neither : (a b c : Bool) → T (a || (b || not c)) → a ≡ false → b ≡ false → c ≡ false
neither a b c t h k = not_then c (or_then b (not c) (or_then a (b || not c) t h) k)

-- of the tests of a call that is not refused, that of number k, from 0
pub passed_test : (ts : List Test) → first_of ts ≡ 0 → (k : ℕ) → k < length ts →
    (get_or ts k (test STATE false)).applies ≡ false
passed_test [] h k l = absurd (not-suc-le-zero l)
passed_test (t ∷ ts) h zero l = passed t.refusal t.applies ts h
passed_test (t ∷ ts) h (suc k) l = passed_test ts (passed_later t.refusal t.applies ts h) k (le_of_suc-le-suc l)
