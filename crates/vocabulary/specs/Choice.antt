-- The one choice that every definition is written with.
-- Assumes nothing.
use Rattle.std.specs.Prelude.{Bool, true, false}

-- `pick test this that`: this where the test holds, that where it does not
abbrev pub pick : {A : Type 0} → Bool → A → A → A
pick true this that = this
pick false this that = that
