-- The incident, on this router: the tail of A's packet and the whole of B's never stand in one packet. What the theorem says is not
-- empty: these calls are accepted, and their N-Chars come out.
-- Assumes nothing.
use Rattle.std.specs.Prelude.{◌≡◌, List, [], ◌∷◌}
use Rattle.vocabulary.specs.NChars.{EOP, EEP}
use Rattle.router_table.specs.Rows.{fresh_table}
use Rattle.router.specs.Cases.{smallest}
use Rattle.router_packets.specs.Ledger.{Call, put, take, run, Ledger, opened, after}
use Rattle.router_packets.specs.Reading.{reading}

-- A at port 1 sends to port 3 and stops in the middle of a packet; B at port 2 sends a whole one there
abbrev pub interrupted : List Call
interrupted =
    put 1 3 ∷ put 1 11 ∷ put 1 12 ∷ run fresh_table 10 ∷ put 2 3 ∷ put 2 21 ∷ put 2 22 ∷ put 2 EOP ∷ run fresh_table 10 ∷ []

-- A's packet is ended, and all that port 3 holds is taken
abbrev pub ended : List Call
ended = put 1 EEP ∷ run fresh_table 10 ∷ take 3 ∷ take 3 ∷ take 3 ∷ take 3 ∷ take 3 ∷ take 3 ∷ []

abbrev pub stopped : Ledger
stopped = after (opened smallest) interrupted

abbrev pub finished : Ledger
finished = after stopped ended

pub record IncidentReplayed : Type 0 where
  -- all that was put was accepted, and all that is in port 3 was taken
  pub put_by_a : finished.put 1 ≡ 3 ∷ 11 ∷ 12 ∷ EEP ∷ []
  pub put_by_b : finished.put 2 ≡ 3 ∷ 21 ∷ 22 ∷ EOP ∷ []
  pub taken : finished.taken 3 ≡ 11 ∷ 12 ∷ EEP ∷ 21 ∷ 22 ∷ EOP ∷ []
  -- A's under its own EEP, then B's under its own EOP
  pub read : (reading [] (finished.taken 3)).packets ≡ (11 ∷ 12 ∷ EEP ∷ []) ∷ (21 ∷ 22 ∷ EOP ∷ []) ∷ []
