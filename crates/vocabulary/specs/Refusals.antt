-- 01, The ten refusals: their names, their numbers and the order in which they are tested. They stand here alone.
-- Assumes nothing.
use Rattle.std.specs.Prelude.{ℕ, ◌≡◌, Bool, true, false, List, [], ◌∷◌, eqb, Result, Ok, Err}
use Rattle.vocabulary.specs.Choice.{pick}
use Rattle.vocabulary.specs.declared.Refusal.{Refusal}
use Rattle.vocabulary.specs.declared.Refusal.TheVariants as the

-- the refusals by the names that the paper gives them
abbrev pub STATE : Refusal
STATE = the.State

abbrev pub STORE : Refusal
STORE = the.Store

abbrev pub PORT : Refusal
PORT = the.Port

abbrev pub ROW : Refusal
ROW = the.Row

abbrev pub CHAR : Refusal
CHAR = the.Char

abbrev pub ROUNDS : Refusal
ROUNDS = the.Rounds

abbrev pub STOPPED : Refusal
STOPPED = the.Stopped

abbrev pub NOTRUN : Refusal
NOTRUN = the.NotRun

abbrev pub EMPTY : Refusal
EMPTY = the.Empty

abbrev pub FULL : Refusal
FULL = the.Full

-- 01, The ten refusals: the column "No."
abbrev pub number : Refusal → ℕ
number Refusal.State = 1
number Refusal.Store = 2
number Refusal.Port = 3
number Refusal.Row = 4
number Refusal.Char = 5
number Refusal.Rounds = 6
number Refusal.Stopped = 7
number Refusal.NotRun = 8
number Refusal.Empty = 9
number Refusal.Full = 10

-- What a call answers: the number of its refusal, 0 where it is accepted.
abbrev pub refusal_in : {A : Type 0} → Result A Refusal → ℕ
refusal_in (Ok answer) = 0
refusal_in (Err r) = number r

-- "other answers are zero": the answer beside the refusal, `zero` where the call is refused
abbrev pub answer_in : {A : Type 0} → A → Result A Refusal → A
answer_in zero (Ok answer) = answer
answer_in zero (Err r) = zero

-- A test that a call makes: whether it applies, and the refusal that follows.
pub record Test : Type 0 where
  pub refusal : Refusal
  pub applies : Bool

abbrev pub test : Refusal → Bool → Test
test r b = record { refusal = r; applies = b }

-- The number of the first test that applies; 0, no refusal, where none does.
abbrev pub first_of : List Test → ℕ
first_of [] = 0
first_of (t ∷ ts) = pick t.applies (number t.refusal) (first_of ts)

-- "Tested in this order." "Tests that need a store's size come after 2": of STATE's tests, so STATE stands twice.
abbrev pub order : List Refusal
order = STATE ∷ STORE ∷ STATE ∷ PORT ∷ ROW ∷ CHAR ∷ ROUNDS ∷ STOPPED ∷ NOTRUN ∷ EMPTY ∷ FULL ∷ []

-- the refusals of a call's tests, as they are tested
abbrev pub refusals_of : List Test → List Refusal
refusals_of [] = []
refusals_of (t ∷ ts) = t.refusal ∷ refusals_of ts

-- `in_order rs order`: the refusals rs stand there in this order, each at a place of its own
abbrev pub in_order : List Refusal → List Refusal → Bool
in_order [] os = true
in_order (r ∷ rs) [] = false
in_order (r ∷ rs) (o ∷ os) = pick (eqb (number r) (number o)) (in_order rs os) (in_order (r ∷ rs) os)

-- "Tested in this order": what is claimed of each call's tests
abbrev pub TestedInOrder : List Test → Type 0
TestedInOrder ts = in_order (refusals_of ts) order ≡ true
