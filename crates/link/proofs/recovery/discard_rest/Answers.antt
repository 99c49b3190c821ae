-- `link::recovery::discard_rest` meets its contract: later puts are discarded where no end was found, and else as they were.
-- Assumes nothing.
use Rattle.std.proofs.Common.{refl}
use mathlib.Core.Bool.{or-true, or-false}
use Rattle.link.specs.Recovery.{rest_discarded}
use Rattle.link.specs.LinkWords.{SENT, link_words}
use Rattle.store.specs.StoreWords.{store_of}
use Rattle.link.proofs.FieldLaws.{truth_told}
use Rattle.link.proofs.StoreFits.{drop_fits}
use Rattle.link.proofs.recovery.discard_rest.Goals as goal
use Rattle.link.proofs.recovery.discard_rest.Goals.{then-not-found, else-not-found}

pub returns-after-not-found : goal.returns-after-not-found
unfolding link_words store_of rest_discarded
returns-after-not-found c =
    let store = c.store_at-store.ensures in (
      λ small l e.
          let left = c.set_store.ensures (rw c.drop_found.ensures (drop_fits c.args.tx.now _ small store.1 c.find_end-found.result.count)) in
          let sent = truth_told l e SENT l.marks.sent refl c.truth.ensures c.if-truth.true in
          let found = rw (store.0, e) at c.find_end-found.ensures in
          elim c.if-not-found.branch [
            | then-not-found w ↦
                rw (w.words-is, left, c.drop_found.ensures, store.0, e, sent, ← found, w.if-not-found.true, or-true l.marks.discarding)
            | else-not-found w ↦
                rw (w.words-is, left, c.drop_found.ensures, store.0, e, sent, ← found, w.if-not-found.false, or-false l.marks.discarding)
          ],
      λ l e.
          rw (c.narrow.ensures, c.find_end-found.ensures, store.0, e, truth_told l e SENT l.marks.sent refl c.truth.ensures c.if-truth.true),
    )
