-- What calls on the router answer that is more than a refusal.
-- Assumes nothing.
use Rattle.std.specs.Prelude.{ℕ, Bool, List, [], ◌∷◌, Option}
use Rattle.router_ports.specs.declared.Mode.{Mode}
use Rattle.router.specs.declared.Ran.{Ran}

-- what a run tells, in the order in which it is told
abbrev pub ran_words : Ran → List ℕ
ran_words a = a.rounds ∷ a.moved ∷ a.errors ∷ []

-- "other answers are zero"
abbrev pub none_ran : Ran
none_ran = record { rounds = 0; moved = 0; errors = 0 }

pub record RowRead : Type 0 where
  pub refusal : ℕ
  pub value : ℕ

-- What is held through a port: what its input does and how many N-Chars wait there, who holds its output and how many wait
-- there, and which inputs wait for it, bit i for input i. `nothing` says that none of these is anything; `unread` has the
-- inputs whose waiting N-Chars no round has moved yet, to whatever port they are addressed.
pub record StillHeld : Type 0 where
  pub refusal : ℕ
  pub mode : Mode
  pub unmoved : ℕ
  pub owner : Option ℕ
  pub untaken : ℕ
  pub wanted : ℕ
  pub unread : ℕ
  pub nothing : Bool
