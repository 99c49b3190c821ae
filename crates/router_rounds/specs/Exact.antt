-- The router's state and its lent area, as a round sees and changes them.
-- Assumes nothing.
use Rattle.std.specs.Prelude.{ℕ}
use Rattle.router_ports.specs.Ports.{mode_at, output_at, with_mode, with_output}
use Rattle.router_ports.specs.Places.{Machine, machine, empty_at, full_at, front_at, without_front, with_behind}
use Rattle.router_ports.specs.declared.Mode.{Mode}
use Rattle.router_ports.specs.declared.Output.{Output}
use Rattle.router_rounds.specs.Acts.{Acts}

abbrev pub exact : Acts Machine
exact =
    record {
      mode = λ (x : Machine) (i : ℕ). mode_at x.router i;
      output = λ (x : Machine) (o : ℕ). output_at x.router o;
      is_empty = empty_at;
      is_full = full_at;
      front = front_at;
      set_mode = λ (x : Machine) (i : ℕ) (m : Mode). machine (with_mode x.router i m) x.area;
      set_output = λ (x : Machine) (o : ℕ) (out : Output). machine (with_output x.router o out) x.area;
      drop_front = without_front;
      append = with_behind;
    }
