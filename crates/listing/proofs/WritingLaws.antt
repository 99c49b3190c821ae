-- One text behind another: two writings make one of both, and room for both is room for each.
-- Assumes nothing.
use mathlib.Core.Path.{◌≡◌, refl, sym, ap, ◌∙◌}
use mathlib.Core.List.{List, [], ◌∷◌, ◌++◌}
use Prim.Native.Nat.{ℕ, suc, ◌+◌, ◌≤◌}
use native.Mathlib.Nat.{add-zero, add_assoc}
use native.Mathlib.Omega.{arith}
use lib.ListN.{length, length-append, take}
use lib.Seq.{take_all}
use borrow.Rule.Slice.PartMut.{put_mid}
use lib.Seq.{sets, sets-eq, length-sets}
use Rattle.std.proofs.lemmas.Slice.{put_mid-paste}
use Rattle.listing.specs.declared.Page.{Page}
use Rattle.listing.specs.Writing.{Room, Puts}

pub sets_append : (out : List ℕ) (at : ℕ) (xs ys : List ℕ) →
    sets out at (xs ++ ys) ≡ sets (sets out at xs) (at + length xs) ys
sets_append out at [] ys = rw (add-zero at)
sets_append out at (x ∷ xs) ys =
    let e : suc at + length xs ≡ at + suc (length xs) = omega arith in sets_append _ (suc at) xs ys ∙ rw e

-- a part of the buffer that is made a text of its length is that text written there
pub part_written : (out : List ℕ) (at k : ℕ) (text : List ℕ) → length text ≡ k → at + k ≤ length out →
    put_mid at k out text ≡ sets out at text
part_written out at k text n fits =
    let fits' : at + length text ≤ length out = omega arith in
    let whole : take (length text) text ≡ text = take_all (length text) text (omega arith) in
    put_mid-paste at k out text text (length text) refl n refl ∙ rw whole (sym (sets-eq text out at fits'))

pub part_length : (out : List ℕ) (at k : ℕ) (text : List ℕ) → length text ≡ k → at + k ≤ length out →
    length (put_mid at k out text) ≡ length out
part_length out at k text n fits = ap length (part_written out at k text n fits) ∙ length-sets out at text

pub nothing_put : (page : Page) → Puts page [] page
nothing_put page = record { same_buffer = refl; behind = sym (add-zero page.at); stands = refl; same_length = refl }

module _ {page : Page} (xs ys : List ℕ) where
  pub room_first : Room page (xs ++ ys) → Room page xs
  room_first room = record { fits = omega (arith, rw (length-append xs ys) at room.fits) }

  pub room_second : {next : Page} → Room page (xs ++ ys) → Puts page xs next → Room next ys
  room_second {next} room first =
      record { fits = omega (arith, rw (length-append xs ys) at room.fits, first.behind, first.same_length) }

  pub both_put : {next end : Page} → Puts page xs next → Puts next ys end → Puts page (xs ++ ys) end
  both_put first second =
      record {
        same_buffer = second.same_buffer ∙ first.same_buffer;
        behind = second.behind ∙ rw (first.behind, length-append xs ys, add_assoc);
        stands = second.stands ∙ rw (first.behind, first.stands) (sym (sets_append page.out.now page.at xs ys));
        same_length = second.same_length ∙ first.same_length;
      }

pub three_put : {old second third new : Page} {xs ys zs : List ℕ} →
    Puts old xs second → Puts second ys third → Puts third zs new → Puts old (xs ++ (ys ++ zs)) new
three_put {old} {second} {third} {new} {xs} {ys} {zs} first then last = both_put xs (ys ++ zs) first (both_put ys zs then last)
