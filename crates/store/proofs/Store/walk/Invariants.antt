-- As many as were passed, with what is found in those that are left, is what is found in all.
-- Assumes nothing.
use Rattle.std.proofs.Common.{◌≡◌, length, ◌-◌, ◌<◌}
use Rattle.store.specs.Ring.{standing}
use Rattle.store.specs.Changes.{found_in}
use Rattle.store.proofs.WalkLaws.{after}
use Rattle.store.proofs.Store.walk.Given as goal

abbrev pub invariant-loop-passed : goal.invariant-loop-passed
invariant-loop-passed l =
    (l.at < length l.places)
    × (found_in (standing l.places l.fn.self.front l.fn.self.len)
    ≡ after l.passed (standing l.places l.at (l.fn.self.len - l.passed)))
