-- 01, The router, a round's part 1: "Each idle input with a front N-Char: an end is discarded (empty packet). Address 0 to 10
-- wants that port, low priority (ours), and is deleted. 11 to 31, or a row that is invalid or requests no port, makes the
-- input spilling, an address error; that byte is not deleted here. Other rows give ports, priority and deletion, done here."
-- What the N-Char says is `heading`.
-- Assumes nothing.
use Rattle.std.specs.Prelude.{ℕ, List}
use Rattle.vocabulary.specs.Choice.{pick}
use Rattle.router_table.specs.Headings.{heading}
use Rattle.router_table.specs.declared.Direction.{Direction}
use Rattle.router_table.specs.declared.Heading.{Heading}
use Rattle.router_table.specs.declared.Heading.TheVariants.{End, Nowhere, Ports}
use Rattle.router_ports.specs.Each.{each}
use Rattle.router_ports.specs.Ports.{input_store}
use Rattle.router_ports.specs.declared.Mode.{Mode}
use Rattle.router_ports.specs.declared.Mode.TheVariants.{Idle, Waiting, Routed, Spilling}
use Rattle.router_rounds.specs.Acts.{Acts, Tally, changed_to, count_error}

module _ {X : Type 0} (M : Acts X) where
  unfoldable pub waits : X → ℕ → Direction → X
  waits x i d =
      pick d.delete (M.drop_front (M.set_mode x i (Waiting (record { ports = d.ports; high = d.high }))) (input_store i))
      (M.set_mode x i (Waiting (record { ports = d.ports; high = d.high })))

  abbrev pub follows : Tally X → ℕ → Heading → Tally X
  follows t i End = changed_to t (M.drop_front t.now (input_store i))
  follows t i Nowhere = changed_to (count_error t) (M.set_mode t.now i Spilling)
  follows t i (Ports d) = changed_to t (waits t.now i d)

  unfoldable pub reads : List ℕ → Tally X → ℕ → Tally X
  reads table t i =
      pick (M.is_empty t.now (input_store i)) t (follows t i (heading table (M.front t.now (input_store i))))

  abbrev pub if_idle : List ℕ → Tally X → ℕ → Mode → Tally X
  if_idle table t i Idle = reads table t i
  if_idle table t i (Waiting w) = t
  if_idle table t i (Routed o) = t
  if_idle table t i Spilling = t

  unfoldable pub addresses : List ℕ → Tally X → ℕ → Tally X
  addresses table t i = if_idle table t i (M.mode t.now i)

  unfoldable pub part1 : List ℕ → Tally X → Tally X
  part1 table t = each (addresses table) 0 11 t
