-- What holds of both stores at every moment, and over each thing that can happen to an end.
-- Assumes nothing.
use Prim.Native.Nat.{ℕ}
use mathlib.Core.Path.{◌≡◌, sym, ap, ◌∙◌}
use mathlib.Core.Bool.{Bool, true, false}
use mathlib.Core.List.{List, [], ◌++◌}
use lib.ListN.{length, take}
use lib.Seq.{take_at}
use Rattle.vocabulary.specs.Choice.{pick}
use Rattle.store.specs.Packets.{through_end}
use Rattle.link.specs.Records.{Marks}
use Rattle.link_laws.specs.NothingLost.{eep_if}
use Rattle.link_laws.proofs.EffectLaws.{marks_after}
use Rattle.link_packets.specs.Stretches.{Stretches, carrying, ending}
use Rattle.link_packets.proofs.MoveMarks.{recovered}
use Rattle.link_packets.proofs.ReceiveLaws.{Receives, received_more, received_end}
use Rattle.link_packets.proofs.TransmitLaws.{Transmits, transmitted_more, transmitted_end}

-- of what was received and sent in each stretch, what was taken and put, what waits in both stores, and the marks
pub record Holds (reset : Bool) (got out : Stretches) (taken put rx tx : List ℕ) (m : Marks) : Type 0 where
  pub receive : Receives reset got taken rx m.stored m.taken
  pub transmit : Transmits reset out put tx m.sent m.put m.discarding

pub hold_effect : {reset : Bool} {got out : Stretches} {taken put rx tx : List ℕ} {m : Marks} (sends heard : List ℕ) →
    Holds reset got out taken put rx (sends ++ tx) m →
    Holds reset (carrying got heard) (carrying out sends) taken put (rx ++ heard) tx (marks_after sends heard m)
hold_effect sends heard h =
    record { receive = received_more heard h.receive; transmit = transmitted_more sends h.transmit }

-- what is discarded is known by its length
discarded_is : (tx tx' away : List ℕ) (sent : Bool) → tx ≡ away ++ tx' → length away ≡ pick sent (through_end tx) 0 →
    away ≡ pick sent (take (through_end tx) tx) []
discarded_is tx tx' away true split count =
    sym (ap (take (through_end tx)) split ∙ take_at away tx' (through_end tx) count)
discarded_is tx tx' away false split count = sym (take_at away tx' 0 count)

pub hold_fall : {reset : Bool} {got out : Stretches} {taken put rx tx : List ℕ} {m : Marks} (tx' away : List ℕ) →
    tx ≡ away ++ tx' → length away ≡ pick m.sent (through_end tx) 0 → Holds reset got out taken put rx tx m →
    Holds reset (ending got) (ending out) taken put (rx ++ eep_if m.stored) tx' (recovered tx m)
hold_fall {tx = tx} {m = m} tx' away split count h =
    record {
      receive = received_end h.receive;
      transmit = transmitted_end h.transmit tx' away split (discarded_is tx tx' away m.sent split count);
    }
