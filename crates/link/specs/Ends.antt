-- 01, The link end: its record, the places that it is lent, and the record with one part changed.
-- Assumes nothing.
use Rattle.std.specs.Prelude.{ℕ, Bool, false, List, Option, None}
use Rattle.store.specs.Changes.{fresh_store}
use Rattle.store.specs.declared.Store.{Store}
use Rattle.link.specs.declared.LinkState.TheVariants.{ErrorReset}
use Rattle.link.specs.Records.{Stage, Controls, Credit, Marks, Link, Moved}

-- a link end with what it is lent: the places of its receive store and of its transmit store
pub record End : Type 0 where
  pub link : Link
  pub rx : List ℕ
  pub tx : List ℕ

-- what an accepted call leaves: the record, how many of its host's N-Chars it discarded, and the places of the receive store
pub record Settled : Type 0 where
  pub moved : Moved
  pub rx : List ℕ

abbrev pub settled_at : Link → ℕ → List ℕ → Settled
settled_at l discarded rx = record { moved = record { link = l; discarded = discarded }; rx = rx }

abbrev pub no_credit : Credit
no_credit = record { held = record { 0 = 0 }; given = record { 0 = 0 } }

-- "A fresh end has the three controls off, empty stores and every number zero." Its marks count as ends.
unfoldable pub fresh_link : Link
fresh_link =
    record {
      stage = record { state = ErrorReset; timer = 0; gotnull = false; nullsent = false };
      controls = record { disabled = false; start = false; auto = false };
      credit = no_credit;
      marks = record { stored = false; sent = false; taken = false; put = false; discarding = false };
      offer = None;
      rx = fresh_store;
      tx = fresh_store;
    }

-- the record with one part changed
abbrev pub with_stage : Link → Stage → Link
with_stage l new =
    record { stage = new; controls = l.controls; credit = l.credit; marks = l.marks; offer = l.offer; rx = l.rx; tx = l.tx }

abbrev pub with_controls : Link → Controls → Link
with_controls l new =
    record { stage = l.stage; controls = new; credit = l.credit; marks = l.marks; offer = l.offer; rx = l.rx; tx = l.tx }

abbrev pub with_credit : Link → Credit → Link
with_credit l new =
    record { stage = l.stage; controls = l.controls; credit = new; marks = l.marks; offer = l.offer; rx = l.rx; tx = l.tx }

abbrev pub with_marks : Link → Marks → Link
with_marks l new =
    record { stage = l.stage; controls = l.controls; credit = l.credit; marks = new; offer = l.offer; rx = l.rx; tx = l.tx }

abbrev pub with_offer : Link → Option ℕ → Link
with_offer l new =
    record { stage = l.stage; controls = l.controls; credit = l.credit; marks = l.marks; offer = new; rx = l.rx; tx = l.tx }

abbrev pub with_rx : Link → Store → Link
with_rx l new =
    record { stage = l.stage; controls = l.controls; credit = l.credit; marks = l.marks; offer = l.offer; rx = new; tx = l.tx }

abbrev pub with_tx : Link → Store → Link
with_tx l new =
    record { stage = l.stage; controls = l.controls; credit = l.credit; marks = l.marks; offer = l.offer; rx = l.rx; tx = new }

-- the marks with one changed: of the last N-Char stored, sent, taken or put, whether it was data; and whether puts are discarded
abbrev pub mark_stored : Marks → Bool → Marks
mark_stored m new =
    record { stored = new; sent = m.sent; taken = m.taken; put = m.put; discarding = m.discarding }

abbrev pub mark_sent : Marks → Bool → Marks
mark_sent m new =
    record { stored = m.stored; sent = new; taken = m.taken; put = m.put; discarding = m.discarding }

abbrev pub mark_taken : Marks → Bool → Marks
mark_taken m new =
    record { stored = m.stored; sent = m.sent; taken = new; put = m.put; discarding = m.discarding }

abbrev pub mark_put : Marks → Bool → Marks
mark_put m new =
    record { stored = m.stored; sent = m.sent; taken = m.taken; put = new; discarding = m.discarding }

abbrev pub mark_discarding : Marks → Bool → Marks
mark_discarding m new =
    record { stored = m.stored; sent = m.sent; taken = m.taken; put = m.put; discarding = new }
