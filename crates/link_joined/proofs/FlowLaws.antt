-- One direction, from a sender to a receiver. Credit and N-Chars go over from an end to the wire or back, and none comes of
-- nothing or is lost: so what holds in a direction goes on holding, for the end that sends and for the end that receives.
-- Assumes nothing.
use mathlib.Core.Path.{◌≡◌, sym, ap, ◌∙◌}
use mathlib.Core.Bool.{Bool, true, false, false≢true}
use mathlib.Core.List.{List, [], ◌∷◌, ◌++◌, append_assoc}
use Prim.Native.Nat.{ℕ, ◌+◌, ◌*◌}
use native.Mathlib.Omega.{arith}
use lib.ListN.{length, drop}
use lib.Seq.{drop-append_seam}
use Rattle.vocabulary.specs.declared.Token.{Token}
use Rattle.vocabulary.specs.declared.Token.TheVariants.{Null}
use Rattle.link_laws.specs.Tokens.{fcts_on, n_chars_on}
use Rattle.link_laws.specs.Calls.{Call}
use Rattle.link_laws.specs.NothingLost.{rx_waits, tx_waits}
use Rattle.link_laws.proofs.PassLaws.{Opens, sends_none, sends_null, sends_late, Hears, hears_none, is_told, Whole, Passes}
use Rattle.link_joined.specs.Pair.{Node, reply_at, tokens_received, tokens_sent, booked, relieved}
use Rattle.link_joined.specs.Joined.{under_way, Delivers}
use Rattle.link_joined.proofs.WireLaws.{fcts_append, nchars_append, nchars_add, whole_append, whole_behind}
use Rattle.link_joined.proofs.UpLaws.{Up}

-- A NULL comes first: the receiver has it, or it is first on the wire, or nothing was sent. So nothing is ever ignored.
pub data NullFirst (got sent : Bool) (wire : List Token) : Type 0 where
  known : got ≡ true → NullFirst got sent wire
  on_wire : (ts : List Token) → wire ≡ Null ∷ ts → NullFirst got sent wire
  unsent : wire ≡ [] → sent ≡ false → NullFirst got sent wire

pub record Flow (s r : Node) : Type 0 where
  pub sum : under_way s r ≡ r.end.link.credit.given.0
  pub count : r.end.link.credit.given.0 + r.counts.nchars ≡ 8 * r.counts.fcts
  pub first : NullFirst r.end.link.stage.gotnull s.end.link.stage.nullsent s.wire
  pub whole : Whole s.wire
  pub stream :
      r.counts.takes ++ (rx_waits r.end ++ (n_chars_on s.wire ++ tx_waits s.end)) ≡ s.counts.puts

pub flow_delivers : {s r : Node} → Flow s r → Delivers s r
flow_delivers flow = record { rest = _; delivered = flow.stream }

first_sends : {got late before after : Bool} {wire sent : List Token} → (late ≡ true → before ≡ true) →
    NullFirst got before wire → Opens late before after sent → NullFirst got after (wire ++ sent)
first_sends past (known h) opens = known h
first_sends {sent = sent} past (on_wire ts e) opens = on_wire (ts ++ sent) (ap (λ (us : List Token). us ++ sent) e)
first_sends past (unsent none h) (sends_none same) =
    unsent (ap (λ (us : List Token). us ++ []) none) (same ∙ h)
first_sends past (unsent none h) (sends_null is) = on_wire [] (ap (λ (us : List Token). us ++ Null ∷ []) none)
first_sends past (unsent none h) (sends_late t late same) = absurd (false≢true (sym h ∙ past late))

first_hears : {before after sent : Bool} {received left : List Token} →
    NullFirst before sent (received ++ left) → Hears before after received → NullFirst after sent left
first_hears first (is_told t h) = known h
first_hears (known h) (hears_none same) = known (same ∙ h)
first_hears (on_wire ts e) (hears_none same) = on_wire ts e
first_hears (unsent none h) (hears_none same) = unsent none h

-- the lists of one direction, regrouped
stream_sends : (took waits under sent store store' puts all : List ℕ) → took ++ (waits ++ (under ++ store)) ≡ all →
    store ++ puts ≡ sent ++ store' → took ++ (waits ++ (under ++ sent ++ store')) ≡ all ++ puts
stream_sends took waits under sent store store' puts all stream moved =
    ap (λ (ns : List ℕ). took ++ (waits ++ ns))
    (append_assoc under sent store' ∙ ap (λ (ns : List ℕ). under ++ ns) (sym moved))
    ∙ sym
    (ap (λ (ns : List ℕ). ns ++ puts) (sym stream)
    ∙ append_assoc took (waits ++ (under ++ store)) puts
    ∙ ap (λ (ns : List ℕ). took ++ ns)
    (append_assoc waits (under ++ store) puts ∙ ap (λ (ns : List ℕ). waits ++ ns) (append_assoc under store puts)))

stream_hears : (took waits waits' came under store takes all : List ℕ) →
    took ++ (waits ++ (came ++ under ++ store)) ≡ all → waits ++ came ≡ takes ++ waits' →
    took ++ takes ++ (waits' ++ (under ++ store)) ≡ all
stream_hears took waits waits' came under store takes all stream moved =
    append_assoc took takes (waits' ++ (under ++ store))
    ∙ ap (λ (ns : List ℕ). took ++ ns)
    (sym (append_assoc takes waits' (under ++ store))
    ∙ ap (λ (ns : List ℕ). ns ++ (under ++ store)) (sym moved)
    ∙ append_assoc waits came (under ++ store)
    ∙ ap (λ (ns : List ℕ). waits ++ ns) (sym (append_assoc came under store)))
    ∙ stream

-- A call at n, to which f sends: `left` stays on the wire.
module _ (n f : Node) (c : Call) (left : List Token) (arriving : f.wire ≡ tokens_received n c ++ left)
    (passes :
    Passes n.end (reply_at n c).end (tokens_received n c) (tokens_sent n c) (reply_at n c).puts (reply_at n c).takes)
  where
    left_over : drop (length (tokens_received n c)) f.wire ≡ left
    left_over = rw arriving (drop-append_seam (tokens_received n c) left)

    -- the end as the sender
    pub flow_sends : Up n.end → Flow n f → Flow (booked n c) (relieved f (tokens_received n c))
    unfolding booked relieved
    flow_sends u flow =
        record {
          sum = rw (left_over, nchars_add n.wire (tokens_sent n c))
              (omega (arith, flow.sum, passes.held, fcts_append (tokens_received n c) left, ap fcts_on arriving));
          count = flow.count;
          first = first_sends u.null_sent flow.first passes.opens;
          whole = whole_append n.wire (tokens_sent n c) flow.whole passes.whole;
          stream = rw (nchars_append n.wire (tokens_sent n c))
              (stream_sends f.counts.takes (rx_waits f.end) (n_chars_on n.wire) (n_chars_on (tokens_sent n c))
              (tx_waits n.end) (tx_waits (reply_at n c).end) (reply_at n c).puts n.counts.puts flow.stream
              passes.transmit);
        }

    -- the end as the receiver
    pub flow_hears : Flow f n → Flow (relieved f (tokens_received n c)) (booked n c)
    unfolding booked relieved
    flow_hears flow =
        record {
          sum = rw (left_over, fcts_append n.wire (tokens_sent n c))
              (omega (
                arith,
                flow.sum,
                passes.given,
                nchars_add (tokens_received n c) left,
                ap (λ (ts : List Token). length (n_chars_on ts)) arriving,
              ));
          count = omega (arith, flow.count, passes.given);
          first = rw left_over (first_hears (rw arriving at flow.first) passes.hears);
          whole = rw left_over (whole_behind (tokens_received n c) left (rw arriving at flow.whole));
          stream = rw left_over
              (stream_hears n.counts.takes (rx_waits n.end) (rx_waits (reply_at n c).end)
              (n_chars_on (tokens_received n c)) (n_chars_on left) (tx_waits f.end) (reply_at n c).takes f.counts.puts
              (rw (arriving, nchars_append (tokens_received n c) left) at flow.stream) passes.receive);
        }
