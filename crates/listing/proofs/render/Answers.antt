-- A buffer that is not too small has room for any listing, and a listing written at
-- its start is the listing with what stood behind it.
-- Assumes nothing.
use borrow.Author.Tests.{lt-ltb, le-ltb}
use mathlib.Core.Path.{◌≡◌, refl, sym, ap, ◌∙◌}
use mathlib.Core.List.{List, ◌++◌}
use Prim.Native.Nat.{ℕ, ◌<◌, ◌≤◌}
use native.Mathlib.Nat.{zero-add}
use native.Mathlib.Omega.{arith}
use lib.ListN.{length, drop}
use lib.Seq.{sets, sets-eq, length-take-le}
use Rattle.std.proofs.Common.{Some, None}
use Rattle.std.proofs.lemmas.Grind.{common_steps}
use Rattle.listing.specs.Listing.{listing, room, too_small, answer, buffer, Rendered}
use Rattle.listing.specs.Writing.{Room, Puts}
use Rattle.listing.specs.declared.Page.{Page}
use Rattle.listing.proofs.RoomLaws.{listings_fit}
use Rattle.listing.proofs.render.Goals as goal

refused : (input out : List ℕ) → length out < room → Rendered input out None out
unfolding too_small answer buffer
refused input out h =
    let small = lt-ltb (length out) room h in
    record { answers = rw small; leaves = rw small; within = omega arith; counts = refl }

module _ (input out : List ℕ) (page : Page) (same : page.out.now ≡ out) (starts : page.at ≡ 0) (large : room ≤ length out) where
  enough : Room page (listing input)
  enough = record { fits = omega (arith, listings_fit input, ap length same) }

  at_the_start : sets out 0 (listing input) ≡ listing input ++ drop (length (listing input)) out
  at_the_start =
      sets-eq (listing input) out 0 (omega (arith, listings_fit input)) ∙ rw (zero-add (length (listing input)))

  rendered : {end : Page} {left : List ℕ} → Puts page (listing input) end → left ≡ end.out.now →
      Rendered input out (Some end.at) left
  unfolding too_small answer buffer
  rendered {end} puts lent =
      let count : end.at ≡ length (listing input) = puts.behind ∙ rw starts (zero-add _) in
      let left : end.out.now ≡ sets out 0 (listing input) = puts.stands ∙ rw (same, starts) in
      let within : end.at ≤ length end.out.now = omega (arith, listings_fit input, puts.same_length, ap length same) in
      let not_small = le-ltb (length out) room large in
      record {
        answers = rw not_small (ap Some count);
        leaves = rw not_small (lent ∙ left ∙ at_the_start);
        within = rw lent within;
        counts = rw lent (sym (length-take-le end.at end.out.now within));
      }

pub returns-then-out-lt-ROOM : goal.returns-then-out-lt-ROOM
returns-then-out-lt-ROOM c = refused c.args.input.now c.args.out.now c.if-out-lt-ROOM.true

pub put_all-requires : goal.put_all-requires
put_all-requires c = enough c.args.input.now c.args.out.now _ refl refl c.if-out-lt-ROOM.false

pub returns : goal.returns
returns c =
    rendered c.args.input.now c.args.out.now _ refl refl c.if-out-lt-ROOM.false c.put_all.ensures
    (grind (arith, common_steps))
