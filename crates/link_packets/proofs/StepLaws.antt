-- What holds of both stores holds after every call, whatever happened at it.
-- Assumes nothing.
use Prim.Native.Nat.{ℕ}
use mathlib.Core.Path.{◌≡◌, refl, sym, subst, ◌∙◌}
use mathlib.Core.Bool.{Bool, true, false, not, ◌||◌, ◌&&◌, or-false, or-true, and-false, not-and_self}
use mathlib.Core.List.{List, [], ◌∷◌, ◌++◌, append-nil, append_cancel_left}
use lib.Dec.{eqb}
use lib.ListN.{length}
use Rattle.std.specs.Prelude.{Option, None}
use Rattle.vocabulary.specs.NChars.{above_eep}
use Rattle.vocabulary.specs.declared.Token.{Token}
use Rattle.store.specs.Ring.{empty, full}
use Rattle.store.proofs.RingLaws.{fresh_waits}
use Rattle.time.specs.declared.Time.{Time}
use Rattle.link.specs.Ends.{End}
use Rattle.link.specs.Moves.{is_state}
use Rattle.link.specs.Recovery.{settles}
use Rattle.link.specs.Reset.{resets}
use Rattle.link.specs.Hosts.{puts, puts_places}
use Rattle.link.specs.declared.LinkState.TheVariants.{ErrorReset}
use Rattle.link.specs.declared.Event.{Event}
use Rattle.link.specs.Records.{Marks}
use Rattle.link_laws.specs.Tokens.{n_chars_on, tokens_of}
use Rattle.link_laws.specs.Calls.{Call, take, reset, put, offer, is_reset, Reply, if_accepted}
use Rattle.link_laws.specs.NothingLost.{heard_in, fell, eep_if, rx_waits, tx_waits}
use Rattle.link_laws.proofs.EndLaws.{Good}
use Rattle.link_laws.proofs.RecoveryLaws.{moved}
use Rattle.link_laws.proofs.MoveLaws.{settle}
use Rattle.link_laws.proofs.EffectLaws.{Effected}
use Rattle.link_laws.proofs.HostLaws.{after_put, taken_of, after_take, after_offer, take_hosted, put_hosted, reset_change}
use Rattle.link_laws.proofs.WalkLaws.{IsEvent, event_heard, event_no_reset, done, not_done, Happened, nothing, event}
use Rattle.link_laws.proofs.WalkLaws.{a_put, a_take, an_offer, a_reset}
use Rattle.link_packets.specs.Stretches.{Stretches, longer}
use Rattle.link_packets.proofs.MoveMarks.{settle_marks}
use Rattle.link_packets.proofs.ReceiveLaws.{Receives, received_take, received_reset}
use Rattle.link_packets.proofs.TransmitLaws.{Transmits, put_stored_lem, put_discarded_lem, transmitted_reset}
use Rattle.link_packets.proofs.HoldLaws.{Holds}
use Rattle.link_packets.proofs.EventLaws.{HoldsAt, none_waits, effect_holds, move_holds}

abbrev ends_at : End → Call → Reply → Bool
ends_at e c r = is_reset c && eqb r.refusal 0 || fell e r.end

module _ {was : Bool} {got out : Stretches} {taken handed_in : List ℕ} (e : End)
    (h : HoldsAt was got out taken handed_in e) where
  -- what is to hold after a call
  abbrev After : Call → Reply → Type 0
  After c r =
      HoldsAt (was || is_reset c && eqb r.refusal 0)
      (longer got (if_accepted r.refusal (heard_in e c)) (ends_at e c r))
      (longer out (n_chars_on (tokens_of r.sent)) (ends_at e c r))
      (taken ++ r.takes) (handed_in ++ r.puts) r.end

  -- it stands in one stretch with the call before it
  abbrev down : Bool
  down = is_state e.link.stage.state ErrorReset

  same_stretch : {taken' handed_in' rx tx : List ℕ} {m : Marks} → Holds was got out taken' handed_in' rx tx m →
      Holds (was || false) (longer got [] (not down && down)) (longer out [] (not down && down)) taken' handed_in' rx tx m
  same_stretch k = rw (or-false was, not-and_self down, append-nil got.present, append-nil out.present) k

  nothing_holds : (c : Call) (number : ℕ) (time : Time) → eqb number 0 ≡ false → After c (not_done number e time)
  nothing_holds c number time refused =
      rw (refused, and-false (is_reset c), append-nil taken, append-nil handed_in) (same_stretch h)

  event_holds : {c : Call} {heard : List Token} (this : Event) (mid : End) (sent : Option Token) (time : Time) (tick_out : Bool) →
      IsEvent e c this heard → Effected this e mid heard (tokens_of sent) →
      After c (done (moved mid (settles this mid)) (settles this mid).moved.discarded [] sent [] time tick_out)
  event_holds this mid sent time tick_out is f =
      rw (event_heard is, event_no_reset is, or-false was, append-nil taken, append-nil handed_in, ← f.same_state)
      (move_holds mid (settles this mid) (settle this mid f.between) (settle_marks this mid f.between)
      (effect_holds e mid f h))

  offer_holds : (v : ℕ) (time : Time) → After (offer v) (done (after_offer e v) 0 [] None [] time false)
  offer_holds v time = rw (append-nil taken, append-nil handed_in) (same_stretch h)

  module _ (g : Good e) where
    take_holds : (time : Time) → empty e.link.rx ≡ false →
        After take (done (after_take e) 0 [] None (taken_of e ∷ []) time false)
    take_holds time some =
        let first : rx_waits e ≡ taken_of e ∷ rx_waits (after_take e) =
        sym (append-nil (rx_waits e)) ∙ (take_hosted e g some).passes.receive in
        rw (append-nil handed_in)
        (same_stretch
        (record {
          receive =
              received_take (taken_of e)
              (subst (λ (rx : List ℕ). Receives was got taken rx e.link.marks.stored e.link.marks.taken) first
              h.receive);
          transmit = h.transmit;
        }))

    abbrev AfterPut : ℕ → Time → Type 0
    AfterPut n time =
        After (put n)
        (done (after_put e n) (puts (length e.tx) e.link n).discarded (n ∷ []) None [] time false)

    put_holds : (n : ℕ) (time : Time) → above_eep n ≡ false →
        not e.link.marks.discarding && full (length e.tx) e.link.tx ≡ false → AfterPut n time
    unfolding puts puts_places
    put_holds n time small room = go e.link.marks.discarding refl
      where
        at : (d : Bool) → e.link.marks.discarding ≡ d →
            Transmits was out handed_in (tx_waits e) e.link.marks.sent e.link.marks.put d
        at d k =
            subst (Transmits was out handed_in (tx_waits e) e.link.marks.sent e.link.marks.put) k h.transmit

        go : (d : Bool) → e.link.marks.discarding ≡ d → AfterPut n time
        go true k =
            rw (k, append-nil taken)
            (same_stretch (record { receive = h.receive; transmit = put_discarded_lem n (at true k) }))
        go false k =
            let after : tx_waits (after_put e n) ≡ tx_waits e ++ n ∷ [] =
            sym (put_hosted e g n small k (rw k at room)).passes.transmit in
            rw (after, k, append-nil taken)
            (same_stretch (record { receive = h.receive; transmit = put_stored_lem n (at false k) }))

    reset_holds : (time : Time) →
        After reset
        (done (moved e (resets e.rx e.link)) (resets e.rx e.link).moved.discarded [] None [] time false)
    unfolding resets
    reset_holds time =
        let eep : rx_waits (moved e (resets e.rx e.link)) ≡ eep_if e.link.marks.taken =
        sym
        (append_cancel_left (rx_waits e) (eep_if e.link.marks.taken) (rx_waits (moved e (resets e.rx e.link)))
        ((reset_change e g).change (none_waits e h)).receive) in
        rw (
          or-true was,
          append-nil got.present,
          append-nil out.present,
          append-nil taken,
          append-nil handed_in,
          fresh_waits e.tx,
          eep,
        )
        (record { receive = received_reset h.receive; transmit = transmitted_reset h.transmit })

    pub step_holds : {c : Call} {r : Reply} → Happened e c r → After c r
    step_holds (nothing c number time refused other) = nothing_holds c number time refused
    step_holds (event c this mid sent heard time tick_out is f) = event_holds this mid sent time tick_out is f
    step_holds (a_put n time small room) = put_holds n time small room
    step_holds (a_take time some) = take_holds time some
    step_holds (an_offer v time) = offer_holds v time
    step_holds (a_reset time) = reset_holds time
