-- The lines of the bits before the first bad byte, then the last line.
-- Assumes nothing.
use borrow.Author.Tests.{lt-ltb, le-ltb}
use mathlib.Core.Path.{◌≡◌, sym, ap, ◌∙◌}
use mathlib.Core.List.{List}
use Prim.Native.Nat.{ℕ, ◌≤◌, ◌<◌}
use native.Mathlib.Nat.{zero-add}
use native.Mathlib.Omega.{arith}
use lib.ListN.{length, take}
use lib.Seq.{length-take-le}
use Rattle.listing.specs.Ascii.{ascii}
use Rattle.listing.specs.Input.{good, bits_in}
use Rattle.listing.specs.Text.{value_line}
use Rattle.listing.specs.Listing.{report_lines, last_line, all_lines}
use Rattle.listing.specs.Writing.{Room, Puts, Progress, start, meant, more_text, Goes}
use Rattle.listing.specs.declared.Page.{Page}
use Rattle.listing.specs.declared.Listing.{Listing}
use Rattle.listing.proofs.InputLaws.{good_in_front}
use Rattle.listing.proofs.WritingLaws.{room_first, room_second, both_put}
use Rattle.listing.proofs.LineLaws.{count_after}
use Rattle.listing.proofs.Page.put_lines.Goals as goal

module _ (input : List ℕ) {end : ℕ} (found : end ≡ length (good input)) where
  before_bad : take end input ≡ good input
  before_bad = rw found (good_in_front input).0

  ends_bad : end < length input → last_line input ≡ value_line (ascii "BAD ") end
  unfolding last_line
  ends_bad h = rw (← found, lt-ltb end (length input) h)

  ends_whole : {count : ℕ} → count ≡ length (bits_in (good input)) → length input ≤ end →
      last_line input ≡ value_line (ascii "END ") count
  unfolding last_line
  ends_whole counted h = rw (← found, le-ltb end (length input) h, ← counted)

  module _ (l : Listing) (begins : meant l ≡ start) where
    reports : more_text (meant l) (bits_in (take end input)) ≡ report_lines input
    unfolding report_lines more_text
    reports = ap (λ (p : Progress). more_text p (bits_in (take end input))) begins ∙ rw before_bad

    module _ {next : Listing} {before behind : Page} (goes : Goes l before (bits_in (take end input)) next behind) where
      reported : Puts before (report_lines input) behind
      reported = rw reports at goes.written

      counted : next.count ≡ length (bits_in (good input))
      counted = rw before_bad at (count_after goes) ∙ rw (ap (λ (p : Progress). p.count) begins) (zero-add _)

      room_left : Room before (all_lines input) → Room behind (last_line input)
      room_left room = room_second (report_lines input) (last_line input) room reported

      listed : {last : Page} → Puts behind (last_line input) last → Puts before (all_lines input) last
      listed ends = both_put (report_lines input) (last_line input) reported ends

pub slice_bounds-take_bytes-end : goal.slice_bounds-take_bytes-end
slice_bounds-take_bytes-end c =
    let found = c.good_length-end.ensures in
    let few = (good_in_front c.args.input.now).1 in
    sym (length-take-le _ _ (omega arith))

pub take_bytes-requires-clause-room : goal.take_bytes-requires-clause-room
take_bytes-requires-clause-room c =
    let input = c.args.input.now in
    rw (reports input c.good_length-end.ensures c.fresh-listing.result c.fresh-listing.ensures)
    (room_first (report_lines input) (last_line input) c.requires)

pub put_value-requires : goal.put_value-requires
put_value-requires c =
    let input = c.args.input.now in
    let found = c.good_length-end.ensures in
    rw (ends_bad input found c.if-end-input.true) at
    (room_left input found c.fresh-listing.result c.fresh-listing.ensures c.take_bytes.ensures c.requires)

pub put_value-requires-else-end-input : goal.put_value-requires-else-end-input
put_value-requires-else-end-input c =
    let input = c.args.input.now in
    let found = c.good_length-end.ensures in
    let count = counted input found c.fresh-listing.result c.fresh-listing.ensures c.take_bytes.ensures in
    rw (ends_whole input found count c.if-end-input.false) at
    (room_left input found c.fresh-listing.result c.fresh-listing.ensures c.take_bytes.ensures c.requires)

pub returns-then-end-input : goal.returns-then-end-input
returns-then-end-input c =
    let input = c.args.input.now in
    let found = c.good_length-end.ensures in
    listed input found c.fresh-listing.result c.fresh-listing.ensures c.take_bytes.ensures
    (rw (ends_bad input found c.if-end-input.true) c.put_value.ensures)

pub returns-else-end-input : goal.returns-else-end-input
returns-else-end-input c =
    let input = c.args.input.now in
    let found = c.good_length-end.ensures in
    let count = counted input found c.fresh-listing.result c.fresh-listing.ensures c.take_bytes.ensures in
    listed input found c.fresh-listing.result c.fresh-listing.ensures c.take_bytes.ensures
    (rw (ends_whole input found count c.if-end-input.false) c.put_value-else-end-input.ensures)
