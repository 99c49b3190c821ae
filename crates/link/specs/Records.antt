-- 01, The link end: what the words of an end mean, and what its calls answer.
-- Assumes nothing.
use Rattle.std.specs.Prelude.{ℕ, Bool, Option}
use Rattle.vocabulary.specs.declared.Token.{Token}
use Rattle.store.specs.declared.Store.{Store}
use Rattle.time.specs.declared.Time.{Time}
use Rattle.link.specs.declared.LinkState.{LinkState}
use Rattle.link.specs.declared.Event.{Event}
use Rattle.link.specs.declared.Held.{Held}
use Rattle.link.specs.declared.GivenOut.{GivenOut}

-- the state, its timer, gotNULL and the NULL-sent mark
pub record Stage : Type 0 where
  pub state : LinkState
  pub timer : ℕ
  pub gotnull : Bool
  pub nullsent : Bool

-- LinkDisabled, LinkStart, AutoStart
pub record Controls : Type 0 where
  pub disabled : Bool
  pub start : Bool
  pub auto : Bool

-- "two counters that are never added together": each is a type of its own
pub record Credit : Type 0 where
  pub held : Held
  pub given : GivenOut

-- whether the last N-Char stored, sent, taken or put was data; and whether puts are discarded
pub record Marks : Type 0 where
  pub stored : Bool
  pub sent : Bool
  pub taken : Bool
  pub put : Bool
  pub discarding : Bool

-- `offer`: the waiting Time-Code
pub record Link : Type 0 where
  pub stage : Stage
  pub controls : Controls
  pub credit : Credit
  pub marks : Marks
  pub offer : Option ℕ
  pub rx : Store
  pub tx : Store

-- an end after a call, and how many of its host's N-Chars the call discarded
pub record Moved : Type 0 where
  pub link : Link
  pub discarded : ℕ

-- what a received token does before the move
pub record Effect : Type 0 where
  pub link : Link
  pub event : Event
  pub time : Time
  pub tick : Bool

-- what a send does before the move
pub record Sending : Type 0 where
  pub link : Link
  pub sent : Option Token

-- the answers of the calls: the refusal first, then the end
pub record Answer : Type 0 where
  pub refusal : ℕ
  pub link : Link
  pub discarded : ℕ

pub record Receipt : Type 0 where
  pub refusal : ℕ
  pub link : Link
  pub discarded : ℕ
  pub time : Time
  pub tick : Bool

pub record Dispatch : Type 0 where
  pub refusal : ℕ
  pub link : Link
  pub discarded : ℕ
  pub sent : Option Token

pub record Taken : Type 0 where
  pub refusal : ℕ
  pub link : Link
  pub discarded : ℕ
  pub nchar : ℕ
