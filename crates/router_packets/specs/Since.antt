-- The same from any moment on: what comes out of an output that nothing was bound for at that moment are packets whose headers were
-- read since, and behind what waited at that moment.
-- Assumes nothing.
use Rattle.std.specs.Prelude.{◌≡◌, false, ℕ, ◌<◌, None}
use mathlib.Core.List.{List, [], ◌++◌, Memᴰ}
use Rattle.router_ports.specs.Ports.{wants, input_store, output_store}
use Rattle.router_ports.specs.Places.{Machine}
use Rattle.router_ports.specs.declared.Wanted.{Wanted}
use Rattle.router_ports.specs.declared.Mode.{Mode}
use Rattle.router_ports.specs.declared.Mode.TheVariants.{Idle, Waiting, Routed, Spilling}
use Rattle.router_rounds.specs.Model.{Model}
use Rattle.router.specs.Reached.{Reached}
use Rattle.router_rings.specs.Tied.{lists_of}
use Rattle.router_packets.specs.Ledger.{Call, Ledger, opened, after}
use Rattle.router_packets.specs.Journal.{Packet, Part, put_to, sent_to, Journey, InProgress, by_owner}

-- an output that nothing is bound for: it is free, and no input waits for it
pub record Clear (was : Model) (o : ℕ) : Type 0 where
  pub free : (was.outputs o).owner ≡ None
  pub unwanted : (i : ℕ) → i < 11 → (w : Wanted) → was.modes i ≡ Waiting w → wants w.ports o ≡ false

-- an input that is still in the packet that it was in, which is bound for no such output
abbrev pub Apart : Model → Mode → Type 0
Apart was Idle = ⊥
Apart was (Waiting w) = (o : ℕ) → o < 11 → Clear was o → wants w.ports o ≡ false
Apart was (Routed o) = Clear was o → ⊥
Apart was Spilling = Unit {0}

-- Where an input stands: in a packet of the journal, or still in the one that it was in at that moment. `tail` is what has left its
-- store of that one since; `past` are its finished packets.
pub data Stage (was : Model) (lent : List (List ℕ)) (held : List ℕ) (p : Part) (past tail : List ℕ) (i : ℕ) (m : Mode) : Type 0 where
  since : (was.modes i ≡ Idle → tail ≡ []) → InProgress lent held p m → Stage was lent held p past tail i m
  before : (was.modes i ≡ Idle → ⊥) → past ≡ [] → p.header ≡ [] → p.cargo ≡ [] → Apart was m →
      Stage was lent held p past tail i m

pub record Since (was : Model) (l : Ledger) (y : Model) : Type 0 where
  pub finished : List Packet
  pub parts : ℕ → Part
  pub tails : ℕ → List ℕ
  pub journeys : (p : Packet) → Memᴰ p finished → Journey l.lent p
  -- what waited and what was put since: the rest of the packet that the input was in, its packets since, and what still waits
  pub inputs : (i : ℕ) → i < 11 →
      was.held (input_store i) ++ l.put i
      ≡ tails i ++ (put_to i finished ++ ((parts i).header ++ ((parts i).cargo ++ y.held (input_store i))))
  pub stages : (i : ℕ) → i < 11 →
      Stage was l.lent (y.held (input_store i)) (parts i) (put_to i finished) (tails i) i (y.modes i)
  -- what was taken since and what waits: what waited then, and the packets that were sent here since
  pub outputs : (o : ℕ) → o < 11 → Clear was o →
      l.taken o ++ y.held (output_store o)
      ≡ was.held (output_store o) ++ (sent_to o finished ++ by_owner parts (y.outputs o).owner)

-- from whatever calls can leave, over any calls
abbrev pub PacketsSince : Type 0
PacketsSince =
    (x : Machine) → Reached x → (calls : List Call) →
    let l = after (opened x) calls in
    Since (lists_of x) l (lists_of l.now)
