-- 01, The router, a round's part 3: "Each routed input moves one N-Char if its output accepts it; an end frees both. Each
-- spilling input discards one N-Char, through the end."
-- Assumes nothing.
use Rattle.std.specs.Prelude.{ℕ, None}
use Rattle.vocabulary.specs.Choice.{pick}
use Rattle.vocabulary.specs.NChars.{is_end}
use Rattle.router_ports.specs.Each.{each}
use Rattle.router_ports.specs.Ports.{input_store, output_store}
use Rattle.router_ports.specs.declared.Mode.{Mode}
use Rattle.router_ports.specs.declared.Mode.TheVariants.{Idle, Waiting, Routed, Spilling}
use Rattle.router_rounds.specs.Acts.{Acts, Tally, changed_to, count_moved}

module _ {X : Type 0} (M : Acts X) where
  -- "an end frees both": the input is idle, the output has no owner and keeps its last granted input
  unfoldable pub frees : X → ℕ → ℕ → X
  frees x i o = M.set_mode (M.set_output x o (record { owner = None; last = (M.output x o).last })) i Idle

  unfoldable pub carries : X → ℕ → ℕ → ℕ → X
  carries x i o n = M.drop_front (M.append x (output_store o) n) (input_store i)

  unfoldable pub moves : Tally X → ℕ → ℕ → ℕ → Tally X
  moves t i o n =
      changed_to (count_moved t) (pick (is_end n) (frees (carries t.now i o n) i o) (carries t.now i o n))

  unfoldable pub moves_one : Tally X → ℕ → ℕ → Tally X
  moves_one t i o =
      pick (M.is_full t.now (output_store o)) t
      (pick (M.is_empty t.now (input_store i)) t (moves t i o (M.front t.now (input_store i))))

  unfoldable pub spills : X → ℕ → ℕ → X
  spills x i n =
      pick (is_end n) (M.set_mode (M.drop_front x (input_store i)) i Idle) (M.drop_front x (input_store i))

  unfoldable pub spills_one : Tally X → ℕ → Tally X
  spills_one t i =
      pick (M.is_empty t.now (input_store i)) t
      (changed_to t (spills t.now i (M.front t.now (input_store i))))

  abbrev pub if_sending : Tally X → ℕ → Mode → Tally X
  if_sending t i Idle = t
  if_sending t i (Waiting w) = t
  if_sending t i (Routed o) = moves_one t i o
  if_sending t i Spilling = spills_one t i

  unfoldable pub sends : Tally X → ℕ → Tally X
  sends t i = if_sending t i (M.mode t.now i)

  unfoldable pub part3 : Tally X → Tally X
  part3 t = each sends 0 11 t
