-- The constant table has what document 01's rows say, and its rule finds the first move that fits: finite facts, each one
-- computed test carried to every case by a law.
-- Assumes nothing.
use mathlib.Core.Path.{◌≡◌, refl, sym, ap, subst, ◌∙◌}
use mathlib.Core.Bool.{Bool, true, false}
use mathlib.Core.List.{List, [], ◌∷◌}
use Prim.Native.Nat.{ℕ, zero, suc, ◌+◌, ◌-◌, ◌*◌, ◌/◌, ◌%◌, ◌≤◌, ◌<◌}
use native.Mathlib.Omega.{arith}
use lib.Dec.{T, eqb, eqb→eq}
use lib.ListN.{get_or}
use denote.Enum.Bare.{sameb}
use denote.Enum.Declared.{tag_of}
use Rattle.link.specs.contracts.LinkState.{the_type}
use Rattle.link.specs.contracts.moves.Condition.{the_type as waits_type}
use Rattle.link.specs.declared.moves.Condition.{Condition}
use Rattle.link.specs.declared.moves.Condition.TheVariants.{Enabled, Exchanged, Disabled, AtLimit}
use Rattle.vocabulary.specs.Choice.{pick}
use Rattle.vocabulary.proofs.Below.{below, same, same_eq, each, each_at}
use Rattle.link.specs.Moves.{state_number, is_state, event_number, Conditions, state_after}
use Rattle.link.specs.Table.{table_at, states, state_of, condition_number, column_holds, first_from, looked_up, SaysMoves, FindsFirstThatFits}
use Rattle.link.specs.declared.LinkState.{LinkState}
use Rattle.link.specs.declared.LinkState.TheVariants.{ErrorReset, ErrorWait, Ready, Started, Connecting, Run}
use Rattle.link.specs.declared.Event.{Event}
use Rattle.link.specs.declared.Event.TheVariants.{Quiet, Fault, GotFct, GotNChar, GotTimeCode, CreditError}

-- the constants, as the code has them
abbrev pub next : List (List ℕ)
next =
    (0 ∷ 0 ∷ 0 ∷ 0 ∷ 0 ∷ 0 ∷ 0 ∷ 0 ∷ 0 ∷ 1 ∷ [])
    ∷ (1 ∷ 0 ∷ 0 ∷ 0 ∷ 0 ∷ 1 ∷ 1 ∷ 1 ∷ 1 ∷ 2 ∷ [])
    ∷ (2 ∷ 0 ∷ 0 ∷ 0 ∷ 0 ∷ 2 ∷ 3 ∷ 2 ∷ 2 ∷ 2 ∷ [])
    ∷ (3 ∷ 0 ∷ 0 ∷ 0 ∷ 0 ∷ 3 ∷ 3 ∷ 4 ∷ 3 ∷ 0 ∷ [])
    ∷ (4 ∷ 0 ∷ 5 ∷ 0 ∷ 0 ∷ 4 ∷ 4 ∷ 4 ∷ 4 ∷ 0 ∷ [])
    ∷ (5 ∷ 0 ∷ 5 ∷ 5 ∷ 5 ∷ 0 ∷ 5 ∷ 5 ∷ 0 ∷ 5 ∷ [])
    ∷ []

pub number_small : (s : LinkState) → state_number s < 6
number_small ErrorReset = omega arith
number_small ErrorWait = omega arith
number_small Ready = omega arith
number_small Started = omega arith
number_small Connecting = omega arith
number_small Run = omega arith

pub event_small : (e : Event) → event_number e < 10
event_small Quiet = omega arith
event_small Fault = omega arith
event_small GotFct = omega arith
event_small GotNChar = omega arith
event_small GotTimeCode = omega arith
event_small CreditError = omega arith

pub state_of_number : (s : LinkState) → state_of (state_number s) ≡ s
state_of_number ErrorReset = refl
state_of_number ErrorWait = refl
state_of_number Ready = refl
state_of_number Started = refl
state_of_number Connecting = refl
state_of_number Run = refl

pub number_of_state : (n : ℕ) → n < 6 → state_number (state_of n) ≡ n
number_of_state n h = eqb→eq (state_number (state_of n)) n (below (λ (k : ℕ). eqb (state_number (state_of k)) k) 6 tt n h)

-- any larger number is read as Run
pub past_the_others : (n : ℕ) → 4 < n → state_of n ≡ Run
past_the_others zero h = absurd (omega arith)
past_the_others (suc zero) h = absurd (omega arith)
past_the_others (suc (suc zero)) h = absurd (omega arith)
past_the_others (suc (suc (suc zero))) h = absurd (omega arith)
past_the_others (suc (suc (suc (suc zero)))) h = absurd (omega arith)
past_the_others (suc (suc (suc (suc (suc zero))))) h = refl
past_the_others (suc (suc (suc (suc (suc (suc n)))))) h = refl

same_state : (s s' : LinkState) → T (is_state s s') → s ≡ s'
same_state s s' h = sym (state_of_number s) ∙ ap state_of (eqb→eq (state_number s) (state_number s') h) ∙ state_of_number s'

for_state : (f : LinkState → Bool) → T (each f states) → (s : LinkState) → T (f s)
for_state f t s =
    subst (λ (x : LinkState). T (f x)) (state_of_number s) (each_at f states Run t (state_number s) (number_small s))

-- two states are the same where their numbers are
pub same_is_state : (s s' : LinkState) → sameb the_type s s' ≡ is_state s s'
same_is_state s s' =
    same_eq (sameb the_type s s') (is_state s s')
    (for_state (λ (x : LinkState). same (sameb the_type x s') (is_state x s'))
    (for_state (λ (y : LinkState). each (λ (x : LinkState). same (sameb the_type x y) (is_state x y)) states) tt s') s)

abbrev pub events : List Event
events = Quiet ∷ Fault ∷ GotFct ∷ GotNChar ∷ GotTimeCode ∷ CreditError ∷ []

for_event : (f : Event → Bool) → T (each f events) → (e : Event) → T (f e)
for_event f t Quiet = each_at f events Quiet t 0 (omega arith)
for_event f t Fault = each_at f events Quiet t 1 (omega arith)
for_event f t GotFct = each_at f events Quiet t 2 (omega arith)
for_event f t GotNChar = each_at f events Quiet t 3 (omega arith)
for_event f t GotTimeCode = each_at f events Quiet t 4 (omega arith)
for_event f t CreditError = each_at f events Quiet t 5 (omega arith)

-- an entry is right: it has the number of what its row says in its column
abbrev right : ℕ → Bool
right k = eqb (get_or (get_or next (k / 10) []) (k % 10) 0) (state_number (table_at (state_of (k / 10)) (k % 10)))

entry_right : (k : ℕ) → k < 60 → get_or (get_or next (k / 10) []) (k % 10) 0 ≡ state_number (table_at (state_of (k / 10)) (k % 10))
entry_right k h =
    eqb→eq (get_or (get_or next (k / 10) []) (k % 10) 0) (state_number (table_at (state_of (k / 10)) (k % 10))) (below right 60 tt k h)

pub table_right : SaysMoves next
table_right state column h k =
    let n : ℕ = state * 10 + column in
    let row : n / 10 ≡ state = omega arith in
    let place : n % 10 ≡ column = omega arith in
    subst (λ (r : ℕ). get_or (get_or next r []) column 0 ≡ state_number (table_at (state_of r) column)) row
    (subst (λ (c : ℕ). get_or (get_or next (n / 10) []) c 0 ≡ state_number (table_at (state_of (n / 10)) c)) place
    (entry_right n (omega arith)))

-- the number in a cell is that of the state that the table says there
pub cell_number : (s : LinkState) (n column : ℕ) → n ≡ state_number s → column < 10 →
    get_or (get_or next n []) column 0 ≡ state_number (table_at s column)
cell_number s n column is inside =
    rw is
    (table_right (state_number s) column (number_small s) inside
    ∙ ap (λ (t : LinkState). state_number (table_at t column)) (state_of_number s))

-- the state by that number is what the table says there
pub numbered_state : (s : LinkState) (n column : ℕ) → n ≡ state_number (table_at s column) → state_of n ≡ table_at s column
numbered_state s n column is = ap state_of is ∙ state_of_number (table_at s column)

pub cell_state : (s : LinkState) (n column : ℕ) → n ≡ state_number s → column < 10 →
    state_of (get_or (get_or next n []) column 0) ≡ table_at s column
cell_state s n column is inside = numbered_state s _ column (cell_number s n column is inside)

abbrev pub bits : List Bool
bits = true ∷ false ∷ []

for_bit : (f : Bool → Bool) → T (each f bits) → (b : Bool) → T (f b)
for_bit f t true = each_at f bits true t 0 (omega arith)
for_bit f t false = each_at f bits true t 1 (omega arith)

-- A test of a state, an event and the four conditions passes at all 576 cases, so at each.
abbrev pub Cases : Type 0
Cases = LinkState → Event → Bool → Bool → Bool → Bool → Bool

abbrev pub on_conditions : (Bool → Bool → Bool → Bool → Bool) → Bool
on_conditions f =
    each (λ (a : Bool). each (λ (b : Bool). each (λ (c : Bool). each (f a b c) bits) bits) bits) bits

abbrev pub in_all_cases : Cases → Bool
in_all_cases f = each (λ (s : LinkState). each (λ (e : Event). on_conditions (f s e)) events) states

pub in_each_case : (f : Cases) → T (in_all_cases f) → (s : LinkState) (e : Event) (a b c d : Bool) → T (f s e a b c d)
in_each_case f t s e a b c d =
    for_bit (f s e a b c)
    (for_bit (λ (x : Bool). each (f s e a b x) bits)
    (for_bit (λ (x : Bool). each (λ (y : Bool). each (f s e a x y) bits) bits)
    (for_bit (λ (x : Bool). each (λ (y : Bool). each (λ (z : Bool). each (f s e x y z) bits) bits) bits)
    (for_event (λ (x : Event). on_conditions (f s x))
    (for_state (λ (x : LinkState). each (λ (y : Event). on_conditions (f x y)) events) t s) e) a) b) c)
    d

-- the same of a test that takes the conditions as one record
abbrev conditions_of : Bool → Bool → Bool → Bool → Conditions
conditions_of a b c d = record { at_limit = a; enabled = b; exchanged = c; disabled = d }

abbrev pub in_every_case : (LinkState → Event → Conditions → Bool) → Bool
in_every_case f = in_all_cases (λ (s : LinkState) (e : Event) (a b c d : Bool). f s e (conditions_of a b c d))

pub every_case : (f : LinkState → Event → Conditions → Bool) → T (in_every_case f) →
    (s : LinkState) (e : Event) (c : Conditions) → T (f s e c)
every_case f t s e c =
    in_each_case (λ (s : LinkState) (e : Event) (a b c d : Bool). f s e (conditions_of a b c d)) t s e
    c.at_limit c.enabled c.exchanged c.disabled

-- the look-up and the first move that fits, at one case
abbrev agree : LinkState → Event → Conditions → Bool
agree s e c = is_state (looked_up s e c) (state_after s e c)

pub looked_up_lem : FindsFirstThatFits
unfolding first_from
looked_up_lem s e c = same_state (looked_up s e c) (state_after s e c) (every_case agree tt s e c)

-- what came has moved it, or the others are looked at
module _ (s : LinkState) (e : Event) (c : Conditions) (column : ℕ) (its : column ≡ event_number e) where
  pub event_moves : is_state (table_at s column) s ≡ false → state_after s e c ≡ table_at s column
  event_moves h = sym (looked_up_lem s e c) ∙ rw (← its, h)

  pub event_stays : is_state (table_at s column) s ≡ true → state_after s e c ≡ first_from s c 6 4
  event_stays h = sym (looked_up_lem s e c) ∙ rw (← its, h)

-- one column of the others: its cell is the state itself, or it holds, or the next ones are looked at
module _ (s : LinkState) (c : Conditions) (column : ℕ) where
  abbrev left : ℕ → LinkState
  left at = first_from s c at (10 - at)

  first_next : column < 10 →
      left column
      ≡ pick (is_state (table_at s column) s) (left (column + 1))
      (pick (column_holds c column) (table_at s column) (left (column + 1)))
  unfolding first_from
  first_next inside = let more : 10 - column ≡ suc (10 - (column + 1)) = omega arith in rw more

  pub first_found : column < 10 → is_state (table_at s column) s ≡ false → column_holds c column ≡ true →
      left column ≡ table_at s column
  first_found inside h holds = first_next inside ∙ rw (h, holds)

  pub first_stays : column < 10 → is_state (table_at s column) s ≡ true → left column ≡ left (column + 1)
  first_stays inside h = first_next inside ∙ rw h

  pub first_passes : column < 10 → column_holds c column ≡ false → left column ≡ left (column + 1)
  first_passes inside h = first_next inside ∙ rw h (go (is_state (table_at s column) s))
    where
      go : (b : Bool) → pick b (left (column + 1)) (left (column + 1)) ≡ left (column + 1)
      go true = refl
      go false = refl

  pub first_done : 10 ≤ column → left column ≡ s
  unfolding first_from
  first_done h = let none : 10 - column ≡ 0 = omega arith in rw none

-- the conditions in the order in which they are looked at, by their columns
abbrev waits : List Condition
waits = Enabled ∷ Exchanged ∷ Disabled ∷ AtLimit ∷ []

pub numbered : (n : ℕ) → n < 4 → condition_number (get_or waits n Enabled) ≡ 6 + n
numbered zero h = refl
numbered (suc zero) h = refl
numbered (suc (suc zero)) h = refl
numbered (suc (suc (suc zero))) h = refl
numbered (suc (suc (suc (suc n)))) h = absurd (omega arith)

pub tagged : (n : ℕ) → n < 4 → tag_of waits_type (get_or waits n Enabled) + 6 ≡ 6 + n
tagged zero h = refl
tagged (suc zero) h = refl
tagged (suc (suc zero)) h = refl
tagged (suc (suc (suc zero))) h = refl
tagged (suc (suc (suc (suc n)))) h = absurd (omega arith)
