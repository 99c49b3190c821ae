-- One packet cut short by a disconnect, and the next one, seen from both hosts: document 01's recovery at work, computed.
-- Assumes nothing.
use Rattle.std.specs.Prelude.{◌≡◌, List, [], ◌∷◌, ◌++◌, replicate}
use Rattle.vocabulary.specs.NChars.{EOP, EEP}
use Rattle.vocabulary.specs.declared.Token.TheVariants.{Null, Fct, NChar}
use Rattle.link.specs.Ends.{End}
use Rattle.link.specs.declared.FaultKind.TheVariants.{DisconnectFault}
use Rattle.link_laws.specs.Calls.{Call, send, take, reset, fault, receive, put, Turn, fresh_end}
use Rattle.link_laws.specs.NothingLost.{put_by, gathered}
use Rattle.link_laws.specs.Cases.{turn, ticks, link_start}
use Rattle.link_packets.specs.Stretches.{received, sent}
use Rattle.link_packets.specs.Packets.{read}
use Rattle.link_packets.specs.GoodPackets.{good, all, Delivered}

abbrev pub calls : List Call → List Turn
calls [] = []
calls (c ∷ cs) = turn c ∷ calls cs

-- From ErrorReset to Run, with an FCT sent and one heard.
abbrev pub comes_up : List Turn
comes_up = ticks 193 ++ calls (receive Null ∷ send ∷ receive Fct ∷ send ∷ [])

abbrev pub small : End
small = fresh_end (replicate 16 0) (replicate 4 0)

-- 1 is sent, the link breaks; 2 and EOP are put when it is down; then 3 and EOP, and the link comes up again.
abbrev pub sending : List Turn
sending =
    link_start ∷ comes_up
    ++ calls (put 1 ∷ send ∷ fault DisconnectFault ∷ put 2 ∷ put EOP ∷ put 3 ∷ put EOP ∷ [])
    ++ comes_up
    ++ calls (send ∷ send ∷ [])

-- 1 comes, the link breaks and comes up again, then 3 and EOP come.
abbrev pub receiving : List Turn
receiving =
    link_start ∷ comes_up
    ++ calls (receive (NChar 1) ∷ fault DisconnectFault ∷ [])
    ++ comes_up
    ++ calls (receive (NChar 3) ∷ receive (NChar EOP) ∷ take ∷ [])

pub record Examples : Type 0 where
  -- the first stretch carries 1 alone and the second the next packet whole: 2 and its EOP are sent in neither
  pub broken_off : (sent small sending).over ≡ (1 ∷ []) ∷ []
  pub next_whole : (sent small sending).present ≡ 3 ∷ EOP ∷ []
  -- the host reads 1 under an EEP, and the next packet whole
  pub closed_first : read small receiving ≡ 1 ∷ EEP ∷ 3 ∷ EOP ∷ []
  -- So over a wire that delivers all, of the two packets that were put the far host reads one under an EOP, as it was put.
  pub delivered : Delivered (all (sent small sending)) (all (received small receiving))
  pub both_put : good (gathered put_by small sending) ≡ (1 ∷ 2 ∷ []) ∷ (3 ∷ []) ∷ []
  pub one_read : good (read small receiving) ≡ (3 ∷ []) ∷ []
  -- a reset throws the rest away, and closes what the host had begun to take
  pub reset_closes : read small (receiving ++ calls (reset ∷ [])) ≡ 1 ∷ EEP ∷ []
