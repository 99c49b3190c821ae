-- What it means that nothing is held through a port: every N-Char that later leaves its output, or is moved from its input, was put
-- after that moment. An unread packet in another input's store may be addressed to it, so that is asked too; where only that is
-- not so, `PacketsSince` still says that the header of every packet that later leaves was read after that moment.
-- Assumes nothing.
use Rattle.std.specs.Prelude.{◌≡◌, true, ℕ, ◌<◌, Some}
use mathlib.Core.List.{List, [], ◌++◌, Memᴰ}
use Rattle.router_ports.specs.Ports.{input_store, output_store}
use Rattle.router_ports.specs.Places.{Machine}
use Rattle.router_ports.specs.declared.Mode.TheVariants.{Routed}
use Rattle.router_rounds.specs.Model.{Model}
use Rattle.router.specs.Held.{still_held}
use Rattle.router.specs.Reached.{Reached}
use Rattle.router_rings.specs.Tied.{lists_of}
use Rattle.router_packets.specs.Ledger.{Call, Ledger, opened, after}
use Rattle.router_packets.specs.Journal.{Packet, Part, put_to, sent_to, Journey, InProgress, by_owner}
use Rattle.router_packets.specs.Since.{Clear}

pub record PutSince (port : ℕ) (l : Ledger) (y : Model) : Type 0 where
  pub finished : List Packet
  pub parts : ℕ → Part
  -- the rest of the packet that an input was in at that moment, put since; none of it goes to this port
  pub tails : ℕ → List ℕ
  pub journeys : (p : Packet) → Memᴰ p finished → Journey l.lent p
  -- the packets of the journal were put since, whole, at every input
  pub put : (i : ℕ) → i < 11 →
      l.put i ≡ tails i ++ (put_to i finished ++ ((parts i).header ++ ((parts i).cargo ++ y.held (input_store i))))
  -- at the port's own input there was no packet to finish
  pub moved : tails port ≡ []
  -- what left the port's output since, or waits there, are packets of the journal and what its owner has moved of one
  pub left : l.taken port ++ y.held (output_store port) ≡ sent_to port finished ++ by_owner parts (y.outputs port).owner
  pub owner : (i : ℕ) → (y.outputs port).owner ≡ Some i → InProgress l.lent (y.held (input_store i)) (parts i) (Routed port)

abbrev pub NothingHeldMeans : Type 0
NothingHeldMeans =
    (x : Machine) → Reached x → (port : ℕ) → (still_held x.router port).nothing ≡ true →
    (still_held x.router port).unread ≡ 0 → (calls : List Call) →
    let l = after (opened x) calls in
    PutSince port l (lists_of l.now)

-- and with unread packets about, nothing is bound for the port: it is one of those that `PacketsSince` speaks of
abbrev pub NothingHeldIsClear : Type 0
NothingHeldIsClear =
    (x : Machine) (port : ℕ) → (still_held x.router port).nothing ≡ true → Clear (lists_of x) port
