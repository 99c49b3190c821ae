-- 01, what the host does: put, take, and offering a Time-Code. "Put, take and Time-Code offers never move the state."
-- Assumes nothing.
use Rattle.std.specs.Prelude.{ℕ, not, List, Some}
use Rattle.vocabulary.specs.Choice.{pick}
use Rattle.vocabulary.specs.NChars.{is_end}
use Rattle.store.specs.Changes.{put_store, put_places, front_of, without_first}
use Rattle.link.specs.Ends.{with_marks, with_offer, with_rx, with_tx, mark_taken, mark_put, mark_discarding}
use Rattle.link.specs.Records.{Link, Moved}

-- "later puts are accepted and discarded through the first end"
abbrev pub put_discarded : Link → ℕ → Moved
put_discarded l n =
    record {
      link = with_marks l (mark_discarding (mark_put l.marks (not (is_end n))) (not (is_end n)));
      discarded = 1;
    }

abbrev pub put_stored : ℕ → Link → ℕ → Moved
put_stored size l n =
    record { link = with_marks (with_tx l (put_store size l.tx n)) (mark_put l.marks (not (is_end n))); discarded = 0 }

unfoldable pub puts : ℕ → Link → ℕ → Moved
puts size l n = pick l.marks.discarding (put_discarded l n) (put_stored size l n)

unfoldable pub puts_places : List ℕ → Link → ℕ → List ℕ
puts_places tx l n = pick l.marks.discarding tx (put_places tx l.tx n)

-- the front N-Char of the receive store, and the record without it
abbrev pub taken_n_char : List ℕ → Link → ℕ
taken_n_char rx l = front_of rx l.rx

abbrev pub takes : List ℕ → Link → ℕ → Link
takes rx l n = with_marks (with_rx l (without_first rx l.rx)) (mark_taken l.marks (not (is_end n)))

-- "A second Time-Code offer in Run replaces the first."
abbrev pub offers : Link → ℕ → Link
offers l v = with_offer l (Some v)
