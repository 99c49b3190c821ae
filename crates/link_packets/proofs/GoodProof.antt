-- What is read under a good EOP came whole, and what is sent so was put: from how packets stay apart, and over a wire that
-- delivers the beginning of each stretch.
-- Assumes nothing.
use Prim.Native.Nat.{ℕ}
use mathlib.Core.Path.{sym, ap, subst, ◌∙◌}
use mathlib.Core.List.Sublistᴰ
use mathlib.Core.List.{List, [], ◌∷◌, ◌++◌, Sublistᴰ}
use Rattle.link.specs.Ends.{End}
use Rattle.link_laws.specs.Calls.{Turn, end_after, fresh_end}
use Rattle.link_laws.specs.NothingLost.{put_by, gathered, tx_waits}
use Rattle.link_packets.specs.Stretches.{received}
use Rattle.link_packets.specs.Packets.{kept_of, received_of, read, sent_of, Apart}
use Rattle.link_packets.specs.GoodPackets.{good, good_in_each, GoodOnes, GoodOnesAreWhole, AcrossTheLink}
use Rattle.link_packets.proofs.GoodLaws.{good_each, good_kept, good_delivered, good_shares}
use Rattle.link_packets.proofs.PacketsProof.{packets_stay_apart}

apart_good : (e : End) (ts : List Turn) → Apart e ts → GoodOnes e ts
apart_good e ts a =
    record {
      read_whole =
          subst (λ (nss : List (List ℕ)). Sublistᴰ (good (read e ts)) (good_in_each (nss ++ (received e ts).present ∷ [])))
          a.receive.as_received
          (subst
          (λ (ps : List (List ℕ)). Sublistᴰ ps (good_in_each (received_of a.receive.parts ++ (received e ts).present ∷ [])))
          (sym (ap good a.receive.as_read ∙ good_each (kept_of a.receive.parts) (received e ts).present))
          (good_kept a.receive.parts (received e ts).present));
      all_read = λ none.
          ap good (a.receive.without_reset none) ∙ good_each (received e ts).over (received e ts).present;
      sent_whole =
          subst (λ (nss : List (List ℕ)). Sublistᴰ (good_in_each nss) (good (gathered put_by e ts))) a.transmit.as_sent
          (subst (λ (ns : List ℕ). Sublistᴰ (good_in_each (sent_of a.transmit.shares)) (good ns))
          (sym a.transmit.as_put)
          (good_shares [] a.transmit.shares (tx_waits (end_after e ts)) a.transmit.at_beginnings));
    }

pub good_ones_are_whole : GoodOnesAreWhole
good_ones_are_whole rx tx r t ts = apart_good (fresh_end rx tx) ts (packets_stay_apart rx tx r t ts)

pub across_the_link : AcrossTheLink
across_the_link rx tx rx' tx' r t r' t' near far delivered =
    Sublistᴰ.trans (good_ones_are_whole rx' tx' r' t' far).read_whole
    (Sublistᴰ.trans (good_delivered delivered) (good_ones_are_whole rx tx r t near).sent_whole)
