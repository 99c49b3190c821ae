-- 01, Going to ErrorReset by a move; and settling after an event: at most one move.
-- Assumes nothing.
use Rattle.std.specs.Prelude.{ℕ, false, not, ◌||◌, List, length, None}
use Rattle.vocabulary.specs.Choice.{pick}
use Rattle.vocabulary.specs.NChars.{EEP}
use Rattle.store.specs.Changes.{put_store, put_places, without_found, found}
use Rattle.store.specs.declared.Found.{Found}
use Rattle.link.specs.Ends.{End, Settled, settled_at, no_credit, with_marks, with_rx, with_tx, mark_stored, mark_sent, mark_discarding}
use Rattle.link.specs.Moves.{is_state, next_state, entered}
use Rattle.link.specs.declared.LinkState.{LinkState}
use Rattle.link.specs.declared.LinkState.TheVariants.{ErrorReset}
use Rattle.link.specs.declared.Event.{Event}
use Rattle.link.specs.Records.{Link, Moved}

-- "Both counters, gotNULL, the NULL-sent mark and the waiting Time-Code are cleared."
abbrev pub cleared : Link → Link
cleared l =
    record {
      stage = record { state = ErrorReset; timer = 0; gotnull = false; nullsent = false };
      controls = l.controls;
      credit = no_credit;
      marks = l.marks;
      offer = None;
      rx = l.rx;
      tx = l.tx;
    }

-- "If the last stored N-Char was data, an EEP is stored." Then the last stored is an end.
unfoldable pub closed_link : ℕ → Link → Link
closed_link size l =
    pick l.marks.stored (with_marks (with_rx l (put_store size l.rx EEP)) (mark_stored l.marks false)) l

unfoldable pub closed_places : List ℕ → Link → List ℕ
closed_places rx l = pick l.marks.stored (put_places rx l.rx EEP) rx

-- "If the last sent N-Char was data, the transmit store is discarded from the front through the first end; if none is there,
-- later puts are accepted and discarded through the first end. The last sent then counts as an end."
abbrev pub discarded_link : List ℕ → Link → Found → Link
discarded_link tx l f =
    with_marks (with_tx l (without_found tx l.tx f))
    (mark_discarding (mark_sent l.marks false) (l.marks.discarding || not f.ended))

unfoldable pub rest_discarded : List ℕ → Link → Moved
rest_discarded tx l =
    pick l.marks.sent
    (record {
      link = discarded_link tx l (found tx l.tx);
      discarded = (found tx l.tx).count;
    })
    (record { link = l; discarded = 0 })

-- all three, one after the other
unfoldable pub goes_down : End → Settled
goes_down e =
    record {
      moved = rest_discarded e.tx (closed_link (length e.rx) (cleared e.link));
      rx = closed_places e.rx (cleared e.link);
    }

-- "at most one move is made": none, to ErrorReset, or to another state
unfoldable pub moves_to : LinkState → End → Settled
moves_to s e =
    pick (is_state s e.link.stage.state) (settled_at e.link 0 e.rx)
    (pick (is_state s ErrorReset) (goes_down e) (settled_at (entered e.link s) 0 e.rx))

unfoldable pub settles : Event → End → Settled
settles event e = moves_to (next_state event e.link) e
