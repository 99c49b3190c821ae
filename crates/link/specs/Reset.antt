-- 01, Reset: "goes to ErrorReset from any state and empties both stores, with the same clearing, timer 0, controls kept."
-- Assumes nothing.
use Rattle.std.specs.Prelude.{ℕ, false, List, length}
use Rattle.vocabulary.specs.Choice.{pick}
use Rattle.vocabulary.specs.NChars.{EEP}
use Rattle.store.specs.Changes.{fresh_store, put_store, put_places}
use Rattle.link.specs.Ends.{Settled, settled_at, with_marks, with_rx, with_tx, mark_stored, mark_sent, mark_discarding}
use Rattle.link.specs.Recovery.{cleared}
use Rattle.link.specs.Records.{Link}

-- "If the last taken N-Char was data, the receive store then holds one EEP, else nothing." "If the last accepted put was data,
-- later puts are discarded through the first end, else none are. The last stored and last sent then count as ends."
abbrev pub emptied : ℕ → Link → Link
emptied size l =
    with_marks
    (with_tx (with_rx l (pick l.marks.taken (put_store size fresh_store EEP) fresh_store)) fresh_store)
    (mark_discarding (mark_sent (mark_stored l.marks false) false) l.marks.put)

unfoldable pub emptied_places : List ℕ → Link → List ℕ
emptied_places rx l = pick l.marks.taken (put_places rx fresh_store EEP) rx

-- "Emptied transmit N-Chars count as discarded."
unfoldable pub resets : List ℕ → Link → Settled
resets rx l = settled_at (emptied (length rx) (cleared l)) l.tx.len (emptied_places rx (cleared l))
