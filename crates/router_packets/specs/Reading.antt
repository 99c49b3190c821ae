-- What a host that takes from an output reads there: packets, each through its first end. Every one of them is the body of one packet
-- of the journal, so, with its deleted header if it had one, a packet that was put to one input.
-- Assumes nothing.
use Rattle.std.specs.Prelude.{◌≡◌, false, List, [], ◌∷◌, ◌++◌, ℕ, ◌<◌}
use Rattle.vocabulary.specs.Choice.{pick}
use Rattle.vocabulary.specs.NChars.{is_end}
use Rattle.router_ports.specs.Ports.{fresh_router, output_store}
use Rattle.router_ports.specs.Places.{machine, bad_area}
use Rattle.router_rounds.specs.Model.{Model}
use Rattle.router_rings.specs.Tied.{lists_of}
use Rattle.router_packets.specs.Ledger.{Call, Ledger, opened, after}
use Rattle.router_packets.specs.Journal.{Packet, body, goes_to, by_owner}
use Rattle.router_packets.specs.Integrity.{Whole}

pub record Reading : Type 0 where
  pub packets : List (List ℕ)
  -- what came of a packet whose end has not come
  pub unfinished : List ℕ

-- with what has been read of a packet so far
unfoldable pub reading : List ℕ → List ℕ → Reading
reading far [] = record { packets = []; unfinished = far }
reading far (n ∷ ns) =
    pick (is_end n)
    (record { packets = (far ++ n ∷ []) ∷ (reading [] ns).packets; unfinished = (reading [] ns).unfinished })
    (reading (far ++ n ∷ []) ns)

-- the bodies of the packets that were sent to an output
unfoldable pub bodies_to : ℕ → List Packet → List (List ℕ)
bodies_to o [] = []
bodies_to o (p ∷ ps) = pick (goes_to o p.fate) (body p ∷ bodies_to o ps) (bodies_to o ps)

pub record ReadWhole (l : Ledger) (y : Model) : Type 0 where
  pub whole : Whole l y
  pub reads : (o : ℕ) → o < 11 →
      reading [] (l.taken o ++ y.held (output_store o))
      ≡ record { packets = bodies_to o whole.finished; unfinished = by_owner whole.parts (y.outputs o).owner }

abbrev pub PacketsReadWhole : Type 0
PacketsReadWhole =
    (area : List ℕ) → bad_area area ≡ false → (calls : List Call) →
    let l = after (opened (machine fresh_router area)) calls in
    ReadWhole l (lists_of l.now)
