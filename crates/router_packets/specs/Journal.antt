-- A journal: the packets that went through the router, each with its input, its header where that was deleted, its cargo, its own
-- end and what became of it.
-- Assumes nothing.
use Rattle.std.specs.Prelude.{◌≡◌, Bool, true, false, ℕ, ◌<◌, eqb, Option, None, Some}
use mathlib.Core.List.{List, [], ◌∷◌, ◌++◌, Memᴰ}
use Rattle.vocabulary.specs.Choice.{pick}
use Rattle.vocabulary.specs.NChars.{is_end}
use Rattle.store.specs.Packets.{holds_end}
use Rattle.router_table.specs.Headings.{heading}
use Rattle.router_table.specs.declared.Direction.{Direction}
use Rattle.router_table.specs.declared.Heading.{Heading}
use Rattle.router_table.specs.declared.Heading.TheVariants.{Nowhere, Ports}
use Rattle.router_ports.specs.Ports.{wants}
use Rattle.router_ports.specs.declared.Wanted.{Wanted}
use Rattle.router_ports.specs.declared.Mode.{Mode}
use Rattle.router_ports.specs.declared.Mode.TheVariants.{Idle, Waiting, Routed, Spilling}

-- what becomes of a packet: discarded as empty, spilt, or sent to one output
pub data Fate : Type 0 where
  empty : Fate
  spilt : Fate
  sent : ℕ → Fate

pub record Packet : Type 0 where
  pub input : ℕ
  pub header : List ℕ
  pub cargo : List ℕ
  pub end : ℕ
  pub fate : Fate

-- as it was put to its input
abbrev pub whole : Packet → List ℕ
whole p = p.header ++ (p.cargo ++ p.end ∷ [])

-- as it goes out
abbrev pub body : Packet → List ℕ
body p = p.cargo ++ p.end ∷ []

abbrev pub goes_to : ℕ → Fate → Bool
goes_to o empty = false
goes_to o spilt = false
goes_to o (sent p) = eqb p o

-- the packets of one input, as they were put to it one after the other
unfoldable pub put_to : ℕ → List Packet → List ℕ
put_to i [] = []
put_to i (p ∷ ps) = pick (eqb p.input i) (whole p ++ put_to i ps) (put_to i ps)

-- the packets that were sent to one output, as they went out one after the other
unfoldable pub sent_to : ℕ → List Packet → List ℕ
sent_to o [] = []
sent_to o (p ∷ ps) = pick (goes_to o p.fate) (body p ++ sent_to o ps) (sent_to o ps)

-- a packet's first N-Char, and what it says by a table that a run was lent
pub record Read (lent : List (List ℕ)) (text : List ℕ) (says : Heading) : Type 0 where
  pub table : List ℕ
  pub stood : Memᴰ table lent
  pub first : ℕ
  pub rest : List ℕ
  pub begins : text ≡ first ∷ rest
  pub reads : heading table first ≡ says

-- a header that says ports, deleted or kept as it says
pub record Headed (lent : List (List ℕ)) (text header : List ℕ) : Type 0 where
  pub says : Direction
  pub read : Read lent text (Ports says)
  pub deleted : header ≡ pick says.delete (read.first ∷ []) []

-- and that wants this output
pub record Bound (lent : List (List ℕ)) (text header : List ℕ) (o : ℕ) : Type 0 where
  pub headed : Headed lent text header
  pub wanted : wants headed.says.ports o ≡ true

-- it went where its header and a row that stood there say
abbrev pub Went : List (List ℕ) → Packet → Fate → Type 0
Went lent p empty = (p.header ≡ []) × (p.cargo ≡ [])
Went lent p spilt = (p.header ≡ []) × Read lent (whole p) Nowhere
Went lent p (sent o) = (o < 11) × Bound lent (whole p) p.header o

-- one packet, of one input, with its own end and no other
pub record Journey (lent : List (List ℕ)) (p : Packet) : Type 0 where
  pub from : p.input < 11
  pub unended : holds_end (p.header ++ p.cargo) ≡ false
  pub ended : is_end p.end ≡ true
  pub went : Went lent p p.fate

-- The packet that an input is in: its deleted header and as much of its cargo as has left the input's store, with what still waits
-- there.
pub record Part : Type 0 where
  pub header : List ℕ
  pub cargo : List ℕ

-- a waiting input keeps the ports that its header said
pub record Asks (lent : List (List ℕ)) (text header : List ℕ) (w : Wanted) : Type 0 where
  pub headed : Headed lent text header
  pub ports : w.ports ≡ headed.says.ports

abbrev pub InMode : List (List ℕ) → List ℕ → Part → Mode → Type 0
InMode lent held p Idle = (p.header ≡ []) × (p.cargo ≡ [])
InMode lent held p (Waiting w) = (p.cargo ≡ []) × Asks lent (p.header ++ (p.cargo ++ held)) p.header w
InMode lent held p (Routed o) = Bound lent (p.header ++ (p.cargo ++ held)) p.header o
InMode lent held p Spilling = (p.header ≡ []) × Read lent (p.header ++ (p.cargo ++ held)) Nowhere

pub record InProgress (lent : List (List ℕ)) (held : List ℕ) (p : Part) (m : Mode) : Type 0 where
  pub unended : holds_end (p.header ++ p.cargo) ≡ false
  pub mode : InMode lent held p m

-- what an output's owner has moved there of the packet it is in
abbrev pub by_owner : (ℕ → Part) → Option ℕ → List ℕ
by_owner parts None = []
by_owner parts (Some i) = (parts i).cargo
