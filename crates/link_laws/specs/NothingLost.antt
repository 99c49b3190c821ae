-- Nothing is lost without being said: over any calls, what entered a store is, in order, what left it, each N-Char with
-- its fate, and what still waits.
-- Assumes nothing.
use Rattle.std.specs.Prelude.{◌≡◌, Bool, false, not, ◌&&◌, List, [], ◌∷◌, ◌++◌, ℕ, ◌+◌, length}
use Rattle.vocabulary.specs.Choice.{pick}
use Rattle.vocabulary.specs.NChars.{EEP, is_end}
use Rattle.vocabulary.specs.declared.Token.{Token}
use Rattle.vocabulary.specs.declared.Token.TheVariants.{Null, Fct, NChar, TimeCode}
use Rattle.store.specs.Ring.{waiting}
use Rattle.link.specs.Ends.{End}
use Rattle.link.specs.Moves.{is_state}
use Rattle.link.specs.Received.{ignores_token, stores_n_char}
use Rattle.link.specs.Refusals.{bad_rx_size, bad_tx_size}
use Rattle.link.specs.declared.LinkState.TheVariants.{ErrorReset}
use Rattle.link.specs.Records.{Link}
use Rattle.link_laws.specs.Tokens.{n_chars_on, tokens_of}
use Rattle.link_laws.specs.Calls.{Call, token_in, is_reset, if_accepted, Turn, turned, end_after, fresh_end}

-- An N-Char that left a store went on, sent or taken by the host, or was thrown away: discarded, or emptied by a reset.
pub data Fate : Type 0 where
  WentOn ThrownAway : Fate

pub record Entry : Type 0 where
  pub nchar : ℕ
  pub fate : Fate

abbrev pub numbers : List Entry → List ℕ
numbers [] = []
numbers (x ∷ xs) = x.nchar ∷ numbers xs

abbrev pub goes_on : Fate → List ℕ → List ℕ → List ℕ
goes_on WentOn this that = this
goes_on ThrownAway this that = that

-- those that went on, and those that were thrown away
abbrev pub onward : List Entry → List ℕ
onward [] = []
onward (x ∷ xs) = goes_on x.fate (x.nchar ∷ onward xs) (onward xs)

abbrev pub thrown : List Entry → List ℕ
thrown [] = []
thrown (x ∷ xs) = goes_on x.fate (thrown xs) (x.nchar ∷ thrown xs)

-- Of a store: what waited before, what entered, what waits afterwards, what went on and what was thrown away. One list
-- of all that left it, each with its fate, agrees with them all.
pub record Accounted (before entered after went away : List ℕ) : Type 0 where
  pub journal : List Entry
  pub in_order : before ++ entered ≡ numbers journal ++ after
  pub went_on : onward journal ≡ went
  pub thrown_away : thrown journal ≡ away

-- "a received N-Char in Run takes 1 and is stored, or at 0 is a credit error and is not stored", where it is not ignored
abbrev pub heard_by : Link → Token → List ℕ
heard_by l Null = []
heard_by l Fct = []
heard_by l (NChar n) = pick (not (ignores_token l (NChar n)) && stores_n_char l) (n ∷ []) []
heard_by l (TimeCode v) = []

-- "Going to ErrorReset by a move": seen from the states before and after a call
abbrev pub fell : End → End → Bool
fell e e' = not (is_state e.link.stage.state ErrorReset) && is_state e'.link.stage.state ErrorReset

-- whether the last N-Char stored is data, once these are stored too
abbrev pub ends_in_data : List ℕ → Bool → Bool
ends_in_data [] before = before
ends_in_data (n ∷ ns) before = ends_in_data ns (not (is_end n))

-- "If the last stored N-Char was data, an EEP is stored."
abbrev pub eep_if : Bool → List ℕ
eep_if b = pick b (EEP ∷ []) []

abbrev pub with_eep : End → End → List ℕ → List ℕ
with_eep e e' heard = heard ++ eep_if (fell e e' && ends_in_data heard e.link.marks.stored)

-- the N-Chars that a call stores as they came from the wire
abbrev pub heard_from : Link → List Token → List ℕ
heard_from l [] = []
heard_from l (t ∷ ts) = heard_by l t ++ heard_from l ts

abbrev pub heard_in : End → Call → List ℕ
heard_in e c = heard_from e.link (token_in c)

-- What a call that is not refused stores in the receive store. Of a reset: "If the last taken N-Char was data, the
-- receive store then holds one EEP, else nothing."
abbrev pub storing : End → End → Call → List ℕ
storing e e' c = pick (is_reset c) (eep_if e.link.marks.taken) (with_eep e e' (heard_in e c))

-- the N-Chars that wait for the host, and those that wait to be sent
abbrev pub rx_waits : End → List ℕ
rx_waits e = waiting e.rx e.link.rx

abbrev pub tx_waits : End → List ℕ
tx_waits e = waiting e.tx e.link.tx

-- "Reset .. empties both stores"; nothing else empties the receive store.
abbrev pub emptying : End → Call → List ℕ
emptying e c = pick (is_reset c) (rx_waits e) []

-- what a call put, sent, stored, gave the host and emptied
abbrev pub put_by : End → Turn → List ℕ
put_by e t = (turned e t).puts

abbrev pub sent_by : End → Turn → List ℕ
sent_by e t = n_chars_on (tokens_of (turned e t).sent)

abbrev pub stored_by : End → Turn → List ℕ
stored_by e t = if_accepted (turned e t).refusal (storing e (turned e t).end t.call)

abbrev pub taken_by : End → Turn → List ℕ
taken_by e t = (turned e t).takes

abbrev pub emptied_by : End → Turn → List ℕ
emptied_by e t = if_accepted (turned e t).refusal (emptying e t.call)

-- and over calls one after the other
unfoldable pub gathered : (End → Turn → List ℕ) → End → List Turn → List ℕ
gathered f e [] = []
gathered f e (t ∷ ts) = f e t ++ gathered f (turned e t).end ts

-- "Each call's answer says how many of its host's N-Chars it discarded": in all
unfoldable pub discarded_in : End → List Turn → ℕ
discarded_in e [] = 0
discarded_in e (t ∷ ts) = (turned e t).discarded + discarded_in (turned e t).end ts

-- of an end whose stores were empty before these calls
pub record NothingLost (e : End) (ts : List Turn) : Type 0 where
  -- the N-Chars that puts accepted are, in order, those sent, those discarded and counted, and those still waiting
  pub discarded : List ℕ
  pub counted : length discarded ≡ discarded_in e ts
  pub transmit : Accounted [] (gathered put_by e ts) (tx_waits (end_after e ts)) (gathered sent_by e ts) discarded
  -- the N-Chars that were stored, received ones and the EEPs that recovery and reset added, are, in order, those that
  -- takes gave, those that resets emptied, and those still waiting
  pub receive :
      Accounted [] (gathered stored_by e ts) (rx_waits (end_after e ts)) (gathered taken_by e ts) (gathered emptied_by e ts)

abbrev pub NothingIsLost : Type 0
NothingIsLost =
    (rx tx : List ℕ) → bad_rx_size (length rx) ≡ false → bad_tx_size (length tx) ≡ false → (ts : List Turn) →
    NothingLost (fresh_end rx tx) ts
