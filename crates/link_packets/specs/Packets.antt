-- Packets never run together: over any calls on an end, and whatever ended a stretch, what the host takes and what the far
-- side gets are packets of one stretch each.
-- Assumes nothing.
use Rattle.std.specs.Prelude.{ℕ, ◌≡◌, Bool, true, false, List, [], ◌∷◌, ◌++◌, length, take}
use Rattle.vocabulary.specs.Choice.{pick}
use Rattle.store.specs.Packets.{through_end}
use Rattle.link.specs.Ends.{End}
use Rattle.link.specs.Refusals.{bad_rx_size, bad_tx_size}
use Rattle.link_laws.specs.Calls.{Turn, end_after, fresh_end}
use Rattle.link_laws.specs.NothingLost.{ends_in_data, eep_if, rx_waits, tx_waits, put_by, taken_by, gathered}
use Rattle.link_packets.specs.Stretches.{reset_among, received, sent}

-- whether the last of these is data: they leave a packet unfinished
abbrev pub unfinished : List ℕ → Bool
unfinished ns = ends_in_data ns false

-- "If the last stored N-Char was data, an EEP is stored." "If the last taken N-Char was data, the receive store then
-- holds one EEP, else nothing."
abbrev pub closed : List ℕ → List ℕ
closed ns = ns ++ eep_if (unfinished ns)

-- stretch by stretch, each closed before anything of the next
abbrev pub each_closed : List (List ℕ) → List ℕ
each_closed [] = []
each_closed (ns ∷ nss) = closed ns ++ each_closed nss

-- Of what was received in a stretch that is over: what the host took or finds waiting, and behind it what a reset threw
-- away before the host took it.
pub record Part : Type 0 where
  pub kept : List ℕ
  pub lost : List ℕ

-- all that was received, and what is kept of it
abbrev pub received_of : List Part → List (List ℕ)
received_of [] = []
received_of (p ∷ ps) = (p.kept ++ p.lost) ∷ received_of ps

abbrev pub kept_of : List Part → List (List ℕ)
kept_of [] = []
kept_of (p ∷ ps) = p.kept ∷ kept_of ps

-- what the host took and what waits for it
abbrev pub read : End → List Turn → List ℕ
read e ts = gathered taken_by e ts ++ rx_waits (end_after e ts)

-- It is, of each stretch that is over, what was received in it or the first part of that, closed, and then what the
-- present one received. Without a reset nothing of it is lost.
pub record ReceivedApart (e : End) (ts : List Turn) : Type 0 where
  pub parts : List Part
  pub as_received : received_of parts ≡ (received e ts).over
  pub as_read : read e ts ≡ each_closed (kept_of parts) ++ (received e ts).present
  pub without_reset : reset_among e ts ≡ false → read e ts ≡ each_closed (received e ts).over ++ (received e ts).present

-- Of what the host put: what was discarded since the stretch before, and what this stretch sent.
pub record Share : Type 0 where
  pub skipped : List ℕ
  pub sent : List ℕ

-- what was sent, stretch by stretch, and all that was put for it
abbrev pub sent_of : List Share → List (List ℕ)
sent_of [] = []
sent_of (s ∷ ss) = s.sent ∷ sent_of ss

abbrev pub put_of : List Share → List ℕ
put_of [] = []
put_of (s ∷ ss) = s.skipped ++ s.sent ++ put_of ss

-- of each share, and of all that was put before it
abbrev pub Each : (List ℕ → Share → Type 0) → List ℕ → List Share → Type 0
Each P before [] = Unit {0}
Each P before (s ∷ ss) = P before s × Each P (before ++ s.skipped ++ s.sent) ss

-- What is sent begins at the beginning of a packet: nothing is where what was put before it leaves a packet unfinished. So
-- the rest of a packet that a stretch left unfinished is skipped through its end before anything else is sent.
abbrev pub AtBeginning : List ℕ → Share → Type 0
AtBeginning before s = unfinished (before ++ s.skipped) ≡ true → s.sent ≡ []

-- What is skipped is the rest of an unfinished packet and no more: "discarded from the front through the first end".
abbrev pub OnlyRest : List ℕ → Share → Type 0
OnlyRest before s = s.skipped ≡ pick (unfinished before) (take (through_end s.skipped) s.skipped) []

-- What the host put is, in order: for each stretch what was discarded and then what was sent, and at last what waits.
-- Without a reset only the rests of unfinished packets are discarded.
pub record SentApart (e : End) (ts : List Turn) : Type 0 where
  pub shares : List Share
  pub as_sent : sent_of shares ≡ (sent e ts).over ++ (sent e ts).present ∷ []
  pub as_put : gathered put_by e ts ≡ put_of shares ++ tx_waits (end_after e ts)
  pub at_beginnings : Each AtBeginning [] shares
  pub without_reset : reset_among e ts ≡ false → Each OnlyRest [] shares

-- The marks by which the end knows this tell the truth: "the last stored N-Char" and "the last sent N-Char" are those of
-- the present stretch, "the last taken N-Char" and "the last accepted put" those of all calls.
pub record MarksTell (e : End) (ts : List Turn) : Type 0 where
  pub last_stored : (end_after e ts).link.marks.stored ≡ unfinished (received e ts).present
  pub last_sent : (end_after e ts).link.marks.sent ≡ unfinished (sent e ts).present
  pub last_taken : (end_after e ts).link.marks.taken ≡ unfinished (gathered taken_by e ts)
  pub last_put : (end_after e ts).link.marks.put ≡ unfinished (gathered put_by e ts)

pub record Apart (e : End) (ts : List Turn) : Type 0 where
  pub receive : ReceivedApart e ts
  pub transmit : SentApart e ts
  pub marks : MarksTell e ts

-- from a fresh end with stores of every size that STORE allows
abbrev pub PacketsStayApart : Type 0
PacketsStayApart =
    (rx tx : List ℕ) → bad_rx_size (length rx) ≡ false → bad_tx_size (length tx) ≡ false → (ts : List Turn) →
    Apart (fresh_end rx tx) ts
