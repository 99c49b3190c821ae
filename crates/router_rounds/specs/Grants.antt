-- 01, The router, a round's part 2: "Each free output takes, from the waiting inputs that want it, high priority before low,
-- then the first in cyclic order after its last granted input (10 at the start)."
-- Assumes nothing.
use Rattle.std.specs.Prelude.{ℕ, zero, suc, ◌+◌, ◌%◌, Bool, true, false, not, ◌&&◌, List, [], ◌∷◌, ◌++◌, Option, None, Some}
use Rattle.vocabulary.specs.Choice.{pick}
use Rattle.router_ports.specs.Each.{each}
use Rattle.router_ports.specs.Ports.{wants}
use Rattle.router_ports.specs.declared.Mode.{Mode}
use Rattle.router_ports.specs.declared.Mode.TheVariants.{Idle, Waiting, Routed, Spilling}
use Rattle.router_rounds.specs.Acts.{Acts, Tally, changed_to}

-- an input that would be taken if it waits at this priority
pub record Candidate : Type 0 where
  pub high : Bool
  pub input : ℕ

-- `count` inputs in cyclic order, the first of them `on` behind the last granted
unfoldable pub cyclic : Bool → ℕ → ℕ → ℕ → List Candidate
cyclic high last on zero = []
cyclic high last on (suc count) = record { high = high; input = (last + on) % 11 } ∷ cyclic high last (on + 1) count

-- all eleven at high priority, then all eleven at low, each time from the one after the last granted on
unfoldable pub candidates : ℕ → List Candidate
candidates last = cyclic true last 1 11 ++ cyclic false last 1 11

-- the first of a list that fits, if one does
unfoldable pub first_that : (Candidate → Bool) → List Candidate → Option ℕ
first_that fits [] = None
first_that fits (c ∷ cs) = pick (fits c) (Some c.input) (first_that fits cs)

abbrev pub same : Bool → Bool → Bool
same true b = b
same false b = not b

-- whether an input waits for this output, at this priority
abbrev pub waits_for : ℕ → Bool → Mode → Bool
waits_for o high Idle = false
waits_for o high (Waiting w) = same w.high high && wants w.ports o
waits_for o high (Routed p) = false
waits_for o high Spilling = false

abbrev pub is_free : Option ℕ → Bool
is_free None = true
is_free (Some i) = false

module _ {X : Type 0} (M : Acts X) where
  abbrev pub fits : X → ℕ → Candidate → Bool
  fits x o c = waits_for o c.high (M.mode x c.input)

  -- the input that a free output takes
  abbrev pub chosen : X → ℕ → Option ℕ
  chosen x o = first_that (fits x o) (candidates (M.output x o).last)

  unfoldable pub granted : Tally X → ℕ → ℕ → Tally X
  granted t o i =
      changed_to t (M.set_mode (M.set_output t.now o (record { owner = Some i; last = i })) i (Routed o))

  abbrev pub grants_to : Tally X → ℕ → Option ℕ → Tally X
  grants_to t o None = t
  grants_to t o (Some i) = granted t o i

  unfoldable pub grants : Tally X → ℕ → Tally X
  grants t o =
      pick (is_free (M.output t.now o).owner) (grants_to t o (chosen t.now o)) t

  unfoldable pub part2 : Tally X → Tally X
  part2 t = each grants 0 11 t
