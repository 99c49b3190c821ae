-- Packets stay apart: what holds of both stores of a fresh end holds after any calls, one after the other.
-- Assumes nothing.
use Prim.Native.Nat.{ℕ}
use mathlib.Core.Path.{refl, ap, ◌∙◌}
use mathlib.Core.Bool.{Bool, false, ◌||◌, or-false, or_assoc, false≢true}
use mathlib.Core.List.{List, [], ◌∷◌, ◌++◌, append-nil, append_assoc}
use Rattle.store.specs.Packets.{through_end}
use Rattle.store.proofs.RingLaws.{fresh_waits}
use Rattle.link.specs.Ends.{End, fresh_link}
use Rattle.link_laws.specs.Calls.{Turn, turned, end_after, fresh_end}
use Rattle.link_laws.specs.NothingLost.{put_by, sent_by, taken_by, gathered}
use Rattle.link_laws.proofs.EndLaws.{Good, passes_good}
use Rattle.link_laws.proofs.WalkLaws.{happened}
use Rattle.link_laws.proofs.CallLaws.{accounts}
use Rattle.link_laws.proofs.GoodEndProofs.{fresh_passes}
use Rattle.link_packets.specs.Stretches.{received_by, reset_by, reset_among, Stretches, no_stretches, longer, returns}
use Rattle.link_packets.specs.Stretches.{stretches, received, sent}
use Rattle.link_packets.specs.Packets.{PacketsStayApart}
use Rattle.link_packets.proofs.TransmitLaws.{shares_then, then_sent, then_put, then_beginnings, then_rests}
use Rattle.link_packets.proofs.EventLaws.{HoldsAt}
use Rattle.link_packets.proofs.StepLaws.{step_holds}

all_hold : {was : Bool} {got out : Stretches} {taken handed_in : List ℕ} (e : End) (ts : List Turn) → Good e →
    HoldsAt was got out taken handed_in e →
    HoldsAt (was || reset_among e ts) (stretches received_by got e ts) (stretches sent_by out e ts)
    (taken ++ gathered taken_by e ts) (handed_in ++ gathered put_by e ts) (end_after e ts)
unfolding end_after gathered stretches reset_among
all_hold {was} {taken = taken} {handed_in = handed_in} e [] g h = rw (or-false was, append-nil taken, append-nil handed_in) h
all_hold {was} {got} {out} {taken} {handed_in} e (t ∷ ts) g h =
    let rest : End = (turned e t).end in
    let later : HoldsAt (was || reset_by e t || reset_among rest ts)
    (stretches received_by (longer got (received_by e t) (returns e t)) rest ts)
    (stretches sent_by (longer out (sent_by e t) (returns e t)) rest ts)
    (taken ++ taken_by e t ++ gathered taken_by rest ts) (handed_in ++ put_by e t ++ gathered put_by rest ts) (end_after rest ts) =
    all_hold {was = was || reset_by e t} {got = longer got (received_by e t) (returns e t)}
    {out = longer out (sent_by e t) (returns e t)} {taken = taken ++ taken_by e t} {handed_in = handed_in ++ put_by e t} rest ts (accounts e g t.time t.call).good (step_holds e h g (happened e g t.time t.call)) in
    rw (
      ← or_assoc was (reset_by e t) (reset_among rest ts),
      ← append_assoc taken (taken_by e t) (gathered taken_by rest ts),
      ← append_assoc handed_in (put_by e t) (gathered put_by rest ts),
    )
    later

fresh_holds : (rx tx : List ℕ) → HoldsAt false no_stretches no_stretches [] [] (fresh_end rx tx)
unfolding fresh_end fresh_link through_end
fresh_holds rx tx =
    rw (fresh_waits rx, fresh_waits tx)
    (record {
      receive =
          record {
            parts = [];
            as_received = refl;
            as_read = refl;
            last_stored = refl;
            last_taken = refl;
            none_lost = λ none. refl;
          };
      transmit =
          record {
            shares = [];
            skipped = [];
            as_sent = refl;
            as_put = refl;
            at_beginnings = tt;
            last_sent = refl;
            last_put = refl;
            discards = refl;
            none_since = λ h. absurd (false≢true h);
            only_rests = λ none. tt;
            only_rest = λ none. refl;
          };
    })

pub packets_stay_apart : PacketsStayApart
packets_stay_apart rx tx r t ts =
    let e : End = fresh_end rx tx in
    let h : HoldsAt (reset_among e ts) (received e ts) (sent e ts) (gathered taken_by e ts) (gathered put_by e ts)
    (end_after e ts) = all_hold e ts (passes_good e (fresh_passes rx tx r t)) (fresh_holds rx tx) in
    record {
      receive =
          record {
            parts = h.receive.parts;
            as_received = h.receive.as_received;
            as_read = h.receive.as_read;
            without_reset = λ none.
                h.receive.as_read
                ∙ ap (λ (ns : List ℕ). ns ++ (received e ts).present) (h.receive.none_lost none);
          };
      transmit =
          record {
            shares = shares_then h.transmit;
            as_sent = then_sent h.transmit;
            as_put = then_put h.transmit;
            at_beginnings = then_beginnings h.transmit;
            without_reset = then_rests h.transmit;
          };
      marks =
          record {
            last_stored = h.receive.last_stored;
            last_sent = h.transmit.last_sent;
            last_taken = h.receive.last_taken;
            last_put = h.transmit.last_put;
          };
    }
