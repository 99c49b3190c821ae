-- Nothing is lost: the accounts of the calls, one after the other, from a fresh end.
-- Assumes nothing.
use mathlib.Core.Path.{◌≡◌, refl, ◌∙◌}
use mathlib.Core.Bool.{false≢true}
use mathlib.Core.List.{List, [], ◌∷◌, ◌++◌, append-nil}
use Prim.Native.Nat.{ℕ}
use lib.ListN.{length, length-append}
use Rattle.store.proofs.RingLaws.{fresh_waits}
use Rattle.link.specs.Ends.{End, fresh_link}
use Rattle.link_laws.specs.Calls.{Turn, turned, end_after, fresh_end}
use Rattle.link_laws.specs.NothingLost.{put_by, sent_by, stored_by, taken_by, emptied_by, gathered, discarded_in}
use Rattle.link_laws.specs.NothingLost.{Accounted, rx_waits, tx_waits, NothingIsLost}
use Rattle.link_laws.proofs.EndLaws.{Good, passes_good}
use Rattle.link_laws.proofs.AccountLaws.{account, then_account}
use Rattle.link_laws.proofs.ChangeLaws.{ChangeTo, NoneWaits}
use Rattle.link_laws.proofs.CallLaws.{traffic_of, accounts}
use Rattle.link_laws.proofs.GoodEndProofs.{fresh_passes}

-- the accounts of both stores over these calls
record Accounts (e : End) (ts : List Turn) (e' : End) : Type 0 where
  away : List ℕ
  counted : length away ≡ discarded_in e ts
  transmit : Accounted (tx_waits e) (gathered put_by e ts) (tx_waits e') (gathered sent_by e ts) away
  receive : Accounted (rx_waits e) (gathered stored_by e ts) (rx_waits e') (gathered taken_by e ts) (gathered emptied_by e ts)

all_accounts : (e : End) (ts : List Turn) → Good e → NoneWaits e → Accounts e ts (end_after e ts)
unfolding end_after gathered discarded_in
all_accounts e [] g w =
    record {
      away = [];
      counted = refl;
      transmit = account [] [] (append-nil (tx_waits e));
      receive = account [] [] (append-nil (rx_waits e));
    }
all_accounts e (t ∷ ts) g w =
    let e' : End = (turned e t).end in
    let step : ChangeTo e e' (traffic_of e t.call (turned e t)) = (accounts e g t.time t.call).change w in
    let rest : Accounts e' ts (end_after e' ts) =
    all_accounts e' ts (accounts e g t.time t.call).good step.none_waits in
    record {
      away = step.away ++ rest.away;
      counted = length-append step.away rest.away ∙ rw (step.counted, rest.counted);
      transmit = then_account (account (sent_by e t) step.away step.transmit) rest.transmit;
      receive = then_account (account (taken_by e t) (emptied_by e t) step.receive) rest.receive;
    }

fresh_tx : (rx tx : List ℕ) → tx_waits (fresh_end rx tx) ≡ []
unfolding fresh_end fresh_link
fresh_tx rx tx = fresh_waits tx

fresh_rx : (rx tx : List ℕ) → rx_waits (fresh_end rx tx) ≡ []
unfolding fresh_end fresh_link
fresh_rx rx tx = fresh_waits rx

fresh_none : (rx tx : List ℕ) → NoneWaits (fresh_end rx tx)
unfolding fresh_end fresh_link
fresh_none rx tx h = absurd (false≢true h)

pub nothing_is_lost : NothingIsLost
nothing_is_lost rx tx r t ts =
    let all : Accounts (fresh_end rx tx) ts (end_after (fresh_end rx tx) ts) =
    all_accounts (fresh_end rx tx) ts (passes_good (fresh_end rx tx) (fresh_passes rx tx r t)) (fresh_none rx tx) in
    record {
      discarded = all.away;
      counted = all.counted;
      transmit = rw (fresh_tx rx tx) at all.transmit;
      receive = rw (fresh_rx rx tx) at all.receive;
    }
