-- The three ways in which a number is written: nothing, one digit, or its tenth and then its last digit.
-- Assumes nothing.
use mathlib.Core.Path.{◌≡◌, refl}
use mathlib.Core.List.{List, [], ◌∷◌, ◌++◌}
use borrow.Author.Rules.{rules}
use borrow.Author.Tests.{lt-ltb, le-ltb}
use Prim.Native.Nat.{ℕ, zero, suc, ◌-◌, ◌/◌, ◌%◌, ◌<◌, ◌≤◌}
use native.Mathlib.Numerals.{sub-one}
use native.Mathlib.Omega.{arith}
use Rattle.listing.specs.Decimal.{digit, decimal_in}
use Rattle.listing.proofs.WritingLaws.{nothing_put, room_first, room_second, both_put}
use Rattle.listing.proofs.Page.+put_number.Goals as goal

no_places : (places n : ℕ) → places ≤ 0 → decimal_in places n ≡ []
unfolding decimal_in
no_places zero n none = refl
no_places (suc places) n none = absurd (omega arith)

one_digit : (places n : ℕ) → 0 < places → n < 10 → decimal_in places n ≡ digit n ∷ []
unfolding decimal_in
one_digit zero n some small = absurd (omega arith)
one_digit (suc places) n some small = rw (lt-ltb n 10 small)

abbrev tenth : ℕ → ℕ → List ℕ
tenth places n = decimal_in (places - 1) (n / 10)

abbrev last : ℕ → List ℕ
last n = digit (n % 10) ∷ []

tenth_first : (places n : ℕ) → 0 < places → 10 ≤ n → decimal_in places n ≡ tenth places n ++ last n
unfolding decimal_in
tenth_first zero n some large = absurd (omega arith)
tenth_first (suc places) n some large = rw (le-ltb n 10 large, sub-one)

pub put_digit-requires-clause-room : goal.put_digit-requires-clause-room
put_digit-requires-clause-room t c =
    rw (one_digit c.args.places c.args.n c.if-places-gt0.true c.if-n-lt10.true) at c.requires

pub put_number-requires : goal.put_number-requires
put_number-requires t c =
    let a = c.args in
    let all = tenth_first a.places a.n c.if-places-gt0.true c.if-n-lt10.false in
    (search rules, room_first (tenth a.places a.n) (last a.n) (rw all at c.requires))

pub put_digit-requires-else-n-lt10-clause-room : goal.put_digit-requires-else-n-lt10-clause-room
put_digit-requires-else-n-lt10-clause-room t c =
    let a = c.args in
    let all = tenth_first a.places a.n c.if-places-gt0.true c.if-n-lt10.false in
    room_second (tenth a.places a.n) (last a.n) (rw all at c.requires) c.put_number.ensures

pub returns-else-places-gt0 : goal.returns-else-places-gt0
returns-else-places-gt0 t c = rw (no_places c.args.places c.args.n c.if-places-gt0.false) (nothing_put c.args.self.now)

pub returns-then-n-lt10 : goal.returns-then-n-lt10
returns-then-n-lt10 t c =
    rw (one_digit c.args.places c.args.n c.if-places-gt0.true c.if-n-lt10.true) c.put_digit.ensures

pub returns-else-n-lt10 : goal.returns-else-n-lt10
returns-else-n-lt10 t c =
    let a = c.args in
    rw (tenth_first a.places a.n c.if-places-gt0.true c.if-n-lt10.false)
    (both_put (tenth a.places a.n) (last a.n) c.put_number.ensures c.put_digit-else-n-lt10.ensures)
