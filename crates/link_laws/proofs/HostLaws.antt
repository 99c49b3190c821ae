-- What the host does, and a reset: put, take, a Time-Code offer and reset leave a good end, and change the stores as
-- they say.
-- Assumes nothing.
use mathlib.Core.Path.{◌≡◌, refl, sym, ap, subst, ◌∙◌}
use mathlib.Core.Bool.{Bool, true, false, not, ◌&&◌, false≢true}
use mathlib.Core.List.{List, [], ◌∷◌, ◌++◌, append-nil}
use Prim.Native.Nat.{ℕ, ◌-◌, ◌<◌}
use native.Mathlib.Omega.{arith}
use lib.Dec.{ltb}
use lib.ListN.{length}
use borrow.Author.Tests.{ltb-false, leb-false, lt-leb}
use Rattle.vocabulary.specs.NChars.{EEP, read_as, above_eep}
use Rattle.store.specs.Ring.{waiting, bad_store, empty, full}
use Rattle.store.specs.Changes.{fresh_store, dropped}
use Rattle.store.proofs.RingLaws.{waiting_length, fresh_waits, fresh_good, put_good, put_keeps_length, put_appends}
use Rattle.store.proofs.RingLaws.{drop_good}
use Rattle.store.proofs.OrLaws.{or_left}
use Rattle.store.proofs.RingLaws.{drop_len, front_is_first}
use Rattle.link.specs.Ends.{End}
use Rattle.link.specs.Reset.{emptied_places, resets}
use Rattle.link.specs.Hosts.{puts, puts_places, taken_n_char, takes, offers}
use Rattle.link.specs.Calls.{with_link}
use Rattle.link.specs.Records.{Moved}
use Rattle.link_laws.specs.NothingLost.{eep_if, rx_waits, tx_waits}
use Rattle.link_laws.proofs.TestLaws.{either_way}
use Rattle.link_laws.proofs.EndLaws.{Good, receive_changed, transmit_changed, all_cleared}
use Rattle.link_laws.proofs.ChangeLaws.{Traffic, Change, NoneWaits, Changes}
use Rattle.link_laws.proofs.PassLaws.{Passes, host_passes, nothing_passes, traffic_in, passing_change}
use Rattle.link_laws.proofs.RecoveryLaws.{moved}

-- the end after a put, a take and an offer
module _ (e : End) where
  abbrev pub after_put : ℕ → End
  after_put n = record { link = (puts (length e.tx) e.link n).link; rx = e.rx; tx = puts_places e.tx e.link n }

  abbrev pub taken_of : ℕ
  taken_of = taken_n_char e.rx e.link

  abbrev pub after_take : End
  after_take = with_link e (takes e.rx e.link taken_of)

  abbrev pub after_offer : ℕ → End
  after_offer v = with_link e (offers e.link v)

  pub put_stage : (n : ℕ) → (after_put n).link.stage ≡ e.link.stage
  unfolding puts
  put_stage n =
      either_way (λ (m : Moved). m.link.stage ≡ e.link.stage) e.link.marks.discarding _ _ (λ h. refl) (λ h. refl)

module _ (e : End) (g : Good e) where
  -- what the host does, and what passes: "Put, take and Time-Code offers never move the state."
  pub record Hosted (e' : End) (puts takes : List ℕ) : Type 0 where
    pub good : Good e'
    pub same_stage : e'.link.stage ≡ e.link.stage
    pub same_size : length e'.rx ≡ length e.rx
    pub same_discarding : e'.link.marks.discarding ≡ e.link.marks.discarding
    pub passes : Passes e e' [] [] puts takes

  pub offer_hosted : (v : ℕ) → Hosted (after_offer e v) [] []
  offer_hosted v = record { good = g; same_stage = refl; same_size = refl; same_discarding = refl; passes = nothing_passes }

  pub take_hosted : empty e.link.rx ≡ false →
      Hosted (after_take e) [] (taken_of e ∷ [])
  take_hosted some =
      let good : bad_store (length e.rx) e.link.rx ≡ false = g.sound.rx_good in
      let shorter : (dropped (length e.rx) e.link.rx 1).len ≡ e.link.rx.len - 1 =
      drop_len (length e.rx) e.link.rx good 1 (leb-false e.link.rx.len 0 some) in
      record {
        good =
            record {
              sound =
                  receive_changed g.sound refl (drop_good (length e.rx) e.link.rx good 1) g.sound.given_most
                  g.sound.given_where (λ h. omega (arith, g.sound.given_room h))
                  (λ h. omega (arith, g.sound.stored_room h));
              held_where = g.held_where;
              timer_below = g.timer_below;
            };
        same_stage = refl;
        same_size = refl;
        same_discarding = refl;
        passes = host_passes (append-nil (tx_waits e)) (front_is_first e.rx e.link.rx good some);
      }

  pub put_hosted : (n : ℕ) → above_eep n ≡ false → e.link.marks.discarding ≡ false →
      full (length e.tx) e.link.tx ≡ false → Hosted (after_put e n) (n ∷ []) []
  unfolding puts puts_places
  put_hosted n small keeps not_full =
      let good : bad_store (length e.tx) e.link.tx ≡ false = g.sound.tx_good in
      let read : read_as n ≡ n = rw small in
      rw keeps
      (record {
        good =
            record {
              sound =
                  transmit_changed g.sound (put_keeps_length e.tx e.link.tx n)
                  (put_good (length e.tx) e.link.tx n good) g.sound.held_most;
              held_where = g.held_where;
              timer_below = g.timer_below;
            };
        same_stage = refl;
        same_size = refl;
        same_discarding = refl;
        passes = host_passes (rw (put_appends e.tx e.link.tx n good not_full, read)) refl;
      })

  pub hosted_change : {e' : End} {puts takes : List ℕ} → Hosted e' puts takes → (NoneWaits e → NoneWaits e') →
      Changes e e' (traffic_in [] [] puts takes)
  hosted_change h none = record { good = h.good; same_size = h.same_size; change = λ w. passing_change h.passes (none w) }

  -- a put that is discarded: none waits, so that it stands behind all that was accepted before it

  abbrev did_put : ℕ → ℕ → Traffic
  did_put n discards = record { puts = n ∷ []; sends = []; discards = discards; stores = []; takes = []; empties = [] }

  abbrev Puts : ℕ → Type 0
  Puts n = Changes e (after_put e n) (did_put n (puts (length e.tx) e.link n).discarded)

  pub put_change : (n : ℕ) → above_eep n ≡ false →
      not e.link.marks.discarding && full (length e.tx) e.link.tx ≡ false → Puts n
  unfolding puts puts_places
  put_change n small room = go e.link.marks.discarding refl
    where
      go : (discarding : Bool) → e.link.marks.discarding ≡ discarding → Puts n
      go true h =
          rw h
          (record {
            good = g;
            same_size = refl;
            change = λ w.
                record {
                  none_waits = λ k. w refl;
                  away = n ∷ [];
                  counted = refl;
                  transmit = rw (w refl);
                  receive = append-nil (rx_waits e);
                };
          })
      go false h =
          let stores : Hosted (after_put e n) (n ∷ []) [] = put_hosted n small h (rw h at room) in
          let none : (puts (length e.tx) e.link n).discarded ≡ 0 = rw h in
          subst (λ (discards : ℕ). Changes e (after_put e n) (did_put n discards)) (sym none)
          (hosted_change stores λ w k. absurd (false≢true (sym (stores.same_discarding ∙ h) ∙ k)))

  -- a reset: both stores are thrown away, and the receive store starts again with an EEP or with nothing

  some_rx : 0 < length e.rx
  some_rx = omega (arith, ltb-false (length e.rx) 9 (or_left _ (ltb 4096 (length e.rx)) g.sound.rx_size))

  fresh_rx : bad_store (length e.rx) fresh_store ≡ false
  fresh_rx = fresh_good (length e.rx) some_rx

  fresh_room : full (length e.rx) fresh_store ≡ false
  unfolding fresh_store
  fresh_room = lt-leb (length e.rx) 0 some_rx

  fresh_tx : bad_store (length e.tx) fresh_store ≡ false
  fresh_tx =
      fresh_good (length e.tx) (ltb-false (length e.tx) 1 (or_left _ (ltb 4096 (length e.tx)) g.sound.tx_size))

  abbrev did_reset : List ℕ → Traffic
  did_reset stores =
      record { puts = []; sends = []; discards = e.link.tx.len; stores = stores; takes = []; empties = rx_waits e }

  both_emptied : {rx stores : List ℕ} {discarding : Bool} → rx ≡ stores →
      Change (tx_waits e) (rx_waits e) (waiting e.tx fresh_store) rx discarding (did_reset stores)
  both_emptied is =
      record {
        none_waits = λ k. fresh_waits e.tx;
        away = tx_waits e;
        counted = waiting_length e.tx e.link.tx;
        transmit = rw (fresh_waits e.tx);
        receive = ap (λ (ns : List ℕ). rx_waits e ++ ns) (sym is);
      }

  abbrev Resets : Type 0
  Resets = Changes e (moved e (resets e.rx e.link)) (did_reset (eep_if e.link.marks.taken))

  pub reset_change : Resets
  unfolding resets emptied_places
  reset_change = go e.link.marks.taken refl
    where
      go : (last : Bool) → e.link.marks.taken ≡ last → Resets
      go true h =
          rw h
          (record {
            good =
                all_cleared g.sound (put_keeps_length e.rx fresh_store EEP)
                (put_good (length e.rx) fresh_store EEP fresh_rx) fresh_tx (λ k. absurd (false≢true k));
            same_size = put_keeps_length e.rx fresh_store EEP;
            change = λ w.
                both_emptied (put_appends e.rx fresh_store EEP fresh_rx fresh_room ∙ rw (fresh_waits e.rx));
          })
      go false h =
          rw h
          (record {
            good = all_cleared g.sound refl fresh_rx fresh_tx (λ k. absurd (false≢true k));
            same_size = refl;
            change = λ w. both_emptied (fresh_waits e.rx);
          })
