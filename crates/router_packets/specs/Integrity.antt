-- No packet inside another: what was put to each input, and what entered each output, are the packets of one journal.
-- Assumes nothing.
use Rattle.std.specs.Prelude.{◌≡◌, false, ℕ, ◌<◌}
use mathlib.Core.List.{List, ◌++◌, Memᴰ}
use Rattle.router_ports.specs.Ports.{fresh_router, input_store, output_store}
use Rattle.router_ports.specs.Places.{machine, bad_area}
use Rattle.router_rounds.specs.Model.{Model}
use Rattle.router_rings.specs.Tied.{lists_of}
use Rattle.router_packets.specs.Ledger.{Call, Ledger, opened, after}
use Rattle.router_packets.specs.Journal.{Packet, Part, put_to, sent_to, Journey, InProgress, by_owner}

-- There are finished packets, and for each input the part of a packet that it is in, such that every N-Char is accounted for, at
-- the inputs and at the outputs.
pub record Whole (l : Ledger) (y : Model) : Type 0 where
  pub finished : List Packet
  pub parts : ℕ → Part
  pub journeys : (p : Packet) → Memᴰ p finished → Journey l.lent p
  -- what was put to an input: its finished packets, the part of one that has left its store, and what still waits
  pub inputs : (i : ℕ) → i < 11 →
      l.put i ≡ put_to i finished ++ ((parts i).header ++ ((parts i).cargo ++ y.held (input_store i)))
  pub progress : (i : ℕ) → i < 11 → InProgress l.lent (y.held (input_store i)) (parts i) (y.modes i)
  -- what entered an output, taken or waiting: the packets that were sent to it, and what its owner has moved of one
  pub outputs : (o : ℕ) → o < 11 →
      l.taken o ++ y.held (output_store o) ≡ sent_to o finished ++ by_owner parts (y.outputs o).owner

-- over any calls, from fresh
abbrev pub PacketIntegrity : Type 0
PacketIntegrity =
    (area : List ℕ) → bad_area area ≡ false → (calls : List Call) →
    let l = after (opened (machine fresh_router area)) calls in
    Whole l (lists_of l.now)
