-- What a host gets under a good EOP: packets that came whole in one stretch, and so, over a wire that delivers no more than
-- was sent, packets that the far host put, in order and none twice.
-- Assumes nothing.
use Rattle.std.specs.Prelude.{ℕ, ◌≡◌, false, eqb, length}
use mathlib.Core.List.{List, [], ◌∷◌, ◌++◌, Sublistᴰ}
use Rattle.vocabulary.specs.Choice.{pick}
use Rattle.vocabulary.specs.NChars.{EOP, is_end}
use Rattle.link.specs.Ends.{End}
use Rattle.link.specs.Refusals.{bad_rx_size, bad_tx_size}
use Rattle.link_laws.specs.Calls.{Turn, fresh_end}
use Rattle.link_laws.specs.NothingLost.{put_by, gathered}
use Rattle.link_packets.specs.Stretches.{Stretches, reset_among, received, sent}
use Rattle.link_packets.specs.Packets.{read}

-- the data of each packet that an EOP closes, where these were begun before
abbrev pub good_from : List ℕ → List ℕ → List (List ℕ)
good_from begun [] = []
good_from begun (n ∷ ns) =
    pick (is_end n) (pick (eqb n EOP) (begun ∷ good_from [] ns) (good_from [] ns)) (good_from (begun ++ n ∷ []) ns)

abbrev pub good : List ℕ → List (List ℕ)
good ns = good_from [] ns

-- those that stand whole in one stretch
abbrev pub good_in_each : List (List ℕ) → List (List ℕ)
good_in_each [] = []
good_in_each (ns ∷ nss) = good ns ++ good_in_each nss

abbrev pub all : Stretches → List (List ℕ)
all s = s.over ++ s.present ∷ []

-- `Sublistᴰ these those`: these are some of those, in order and each at a place of its own
pub record GoodOnes (e : End) (ts : List Turn) : Type 0 where
  -- what the host reads under an EOP came whole in one stretch; without a reset all that came so is read
  pub read_whole : Sublistᴰ (good (read e ts)) (good_in_each (all (received e ts)))
  pub all_read : reset_among e ts ≡ false → good (read e ts) ≡ good_in_each (all (received e ts))
  -- what is sent whole in one stretch under an EOP is a packet that the host put
  pub sent_whole : Sublistᴰ (good_in_each (all (sent e ts))) (good (gathered put_by e ts))

abbrev pub GoodOnesAreWhole : Type 0
GoodOnesAreWhole =
    (rx tx : List ℕ) → bad_rx_size (length rx) ≡ false → bad_tx_size (length tx) ≡ false → (ts : List Turn) →
    GoodOnes (fresh_end rx tx) ts

-- A wire delivers, in a stretch of the far end, nothing, or the beginning of what was sent in one stretch; of each stretch
-- at most once, and in order. An end that went to ErrorReset is silent for 192 ticks at least, and after nine the far
-- decoder reports a disconnect, so that no stretch of the far end hears two.
pub data Delivered : List (List ℕ) → List (List ℕ) → Type 0 where
  nothing : Delivered [] []
  unheard : {sent heard : List (List ℕ)} (ns : List ℕ) → Delivered sent heard → Delivered (ns ∷ sent) heard
  silent : {sent heard : List (List ℕ)} → Delivered sent heard → Delivered sent ([] ∷ heard)
  beginning : {sent heard : List (List ℕ)} (ns rest : List ℕ) → Delivered sent heard →
      Delivered ((ns ++ rest) ∷ sent) (ns ∷ heard)

-- Two ends with any calls on each, and such a wire from one to the other: what the far host reads under an EOP is what the
-- near host put, no two packets run together.
abbrev pub AcrossTheLink : Type 0
AcrossTheLink =
    (rx tx rx' tx' : List ℕ) → bad_rx_size (length rx) ≡ false → bad_tx_size (length tx) ≡ false →
    bad_rx_size (length rx') ≡ false → bad_tx_size (length tx') ≡ false → (near far : List Turn) →
    Delivered (all (sent (fresh_end rx tx) near)) (all (received (fresh_end rx' tx') far)) →
    Sublistᴰ (good (read (fresh_end rx' tx') far)) (good (gathered put_by (fresh_end rx tx) near))
