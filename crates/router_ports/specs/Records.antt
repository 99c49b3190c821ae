-- What a router's words mean: what each input does, how each output stands, and where each store begins and ends.
-- Assumes nothing.
use Rattle.std.specs.Prelude.{List}
use Rattle.store.specs.declared.Store.{Store}
use Rattle.router_ports.specs.declared.Mode.{Mode}
use Rattle.router_ports.specs.declared.Output.{Output}

pub record Input : Type 0 where
  pub mode : Mode

-- Stores 0 to 10 are those of the inputs, 11 to 21 those of the outputs.
pub record Router : Type 0 where
  pub inputs : List Input
  pub outputs : List Output
  pub stores : List Store
