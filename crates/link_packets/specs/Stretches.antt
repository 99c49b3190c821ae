-- The calls on an end, cut into stretches by each return to ErrorReset: what came and what was sent in each of them.
-- Assumes nothing.
use Rattle.std.specs.Prelude.{ℕ, Bool, false, ◌||◌, ◌&&◌, List, [], ◌∷◌, ◌++◌, eqb}
use Rattle.vocabulary.specs.Choice.{pick}
use Rattle.link.specs.Ends.{End}
use Rattle.link_laws.specs.Calls.{is_reset, if_accepted, Turn, turned}
use Rattle.link_laws.specs.NothingLost.{heard_in, fell, sent_by}

-- the N-Chars that a call stored as they came from the wire
abbrev pub received_by : End → Turn → List ℕ
received_by e t = if_accepted (turned e t).refusal (heard_in e t.call)

-- "Reset goes to ErrorReset from any state", where it is not refused
abbrev pub reset_by : End → Turn → Bool
reset_by e t = is_reset t.call && eqb (turned e t).refusal 0

-- "Going to ErrorReset by a move", or by a reset: the stretch is over
abbrev pub returns : End → Turn → Bool
returns e t = reset_by e t || fell e (turned e t).end

-- whether a reset is among the calls
unfoldable pub reset_among : End → List Turn → Bool
reset_among e [] = false
reset_among e (t ∷ ts) = reset_by e t || reset_among (turned e t).end ts

-- what the stretches that are over carried, the oldest first, and what the present one carried so far
pub record Stretches : Type 0 where
  pub over : List (List ℕ)
  pub present : List ℕ

abbrev pub no_stretches : Stretches
no_stretches = record { over = []; present = [] }

abbrev pub carrying : Stretches → List ℕ → Stretches
carrying s ns = record { over = s.over; present = s.present ++ ns }

abbrev pub ending : Stretches → Stretches
ending s = record { over = s.over ++ s.present ∷ []; present = [] }

-- What a call carried belongs to the stretch in which it was made, also where it ends that stretch.
abbrev pub longer : Stretches → List ℕ → Bool → Stretches
longer s ns ends = pick ends (ending (carrying s ns)) (carrying s ns)

-- these, and then those of further calls
unfoldable pub stretches : (End → Turn → List ℕ) → Stretches → End → List Turn → Stretches
stretches f s e [] = s
stretches f s e (t ∷ ts) = stretches f (longer s (f e t) (returns e t)) (turned e t).end ts

-- what was received and stored in each stretch, and what was sent in each
abbrev pub received : End → List Turn → Stretches
received e ts = stretches received_by no_stretches e ts

abbrev pub sent : End → List Turn → Stretches
sent e ts = stretches sent_by no_stretches e ts
