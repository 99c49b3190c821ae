-- Each place that is passed is one that was left; where an end stands there, the walk is over.
-- Assumes nothing.
use Rattle.std.proofs.Common.{◌≡◌, true, false, length, ◌+◌, slice_index_or}
use mathlib.Core.Path.{sym, ◌∙◌}
use native.Mathlib.Nat.{sub-zero}
use native.Mathlib.Omega.{arith}
use Rattle.vocabulary.specs.NChars.{is_end}
use Rattle.store.proofs.PlaceLaws.{around_below}
use Rattle.store.proofs.RingLaws.{front_below}
use Rattle.store.proofs.WalkLaws.{starts, stops, passes, runs_dry}
use Rattle.store.proofs.Store.walk.Goals as goal

pub loop-passed-init : goal.loop-passed-init
loop-passed-init c = let a = c.args in (front_below _ a.self c.requires, rw (sub-zero a.self.len) (starts _))

pub returns-then-is_end : goal.returns-then-is_end
returns-then-is_end c =
    let l = c.loop-passed in
    let end : is_end (slice_index_or c.args.places.now l.at 0) ≡ true = sym c.is_end.ensures ∙ c.if-is_end.true in
    sym (l.invariant.1 ∙ stops c.args.places.now l.at c.args.self.len l.passed c.loop-passed-test.true end)

pub loop-passed-preserved : goal.loop-passed-preserved
loop-passed-preserved c =
    let l = c.loop-passed in
    let none : is_end (slice_index_or c.args.places.now l.at 0) ≡ false = sym c.is_end.ensures ∙ c.if-is_end.false in
    let inside = around_below (length c.args.places.now) (l.at + 1) (omega (arith, l.invariant.0)) in
    let passed = passes c.args.places.now l.at c.args.self.len l.passed c.loop-passed-test.true none in
    (rw c.around-at.ensures inside, rw c.around-at.ensures (l.invariant.1 ∙ passed))

pub returns : goal.returns
returns c =
    let l = c.loop-passed in
    let all : l.passed ≡ c.args.self.len = omega arith in
    sym (l.invariant.1 ∙ runs_dry c.args.places.now l.at c.args.self.len l.passed c.loop-passed-test.false ∙ rw all)
