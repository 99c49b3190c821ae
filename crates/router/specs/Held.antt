-- What is still held through a port: what its input does and has waiting, who holds its output and what waits there, which
-- inputs wait for it, and which inputs have N-Chars waiting that no round has moved yet.
-- Assumes nothing.
use Rattle.std.specs.Prelude.{◌≡◌, Bool, true, false, not, ◌&&◌, ◌||◌, ℕ, zero, suc, ◌+◌, ◌*◌, ◌<◌, eqb, Option, None, Some}
use Rattle.vocabulary.specs.Choice.{pick}
use Rattle.store.specs.Ring.{empty}
use Rattle.router_ports.specs.Ports.{input_store, output_store, wants, mode_at, output_at, store_at}
use Rattle.router_ports.specs.declared.Mode.{Mode}
use Rattle.router_ports.specs.declared.Mode.TheVariants.{Idle, Waiting, Routed, Spilling}
use Rattle.router_ports.specs.Records.{Router}
use Rattle.router_rounds.specs.Grants.{waits_for}
use Rattle.router.specs.Refusals.{held_refusal}
use Rattle.router.specs.declared.held.Sets.{Sets}
use Rattle.router.specs.Records.{StillHeld}

-- "the waiting inputs that want it", at either priority
abbrev pub awaits : ℕ → Mode → Bool
awaits port Idle = false
awaits port (Waiting w) = wants w.ports port
awaits port (Routed o) = false
awaits port Spilling = false

-- whether an input has N-Chars waiting
abbrev pub unmoved_at : Router → ℕ → Bool
unmoved_at s i = not (empty (store_at s (input_store i)))

-- a set of ports is a number whose bit p is port p: one more port below those of a set
abbrev pub behind : ℕ → Bool → ℕ
behind set member = pick member (1 + 2 * set) (2 * set)

-- those of `count` ports from `from` on that are members
unfoldable pub set_of : (ℕ → Bool) → ℕ → ℕ → ℕ
set_of member from zero = 0
set_of member from (suc count) = behind (set_of member (from + 1) count) (member from)

-- the inputs that wait for a port's output
unfoldable pub wanted_by : Router → ℕ → ℕ
wanted_by s port = set_of (λ (i : ℕ). awaits port (mode_at s i)) 0 11

-- the inputs that have N-Chars waiting
unfoldable pub unread : Router → ℕ
unread s = set_of (unmoved_at s) 0 11

unfoldable pub sets_of : Router → ℕ → Sets
sets_of s port = record { wanted = wanted_by s port; unread = unread s }

-- an input is idle with nothing waiting
abbrev pub nothing_at_input : Mode → ℕ → Bool
nothing_at_input Idle unmoved = eqb unmoved 0
nothing_at_input (Waiting w) unmoved = false
nothing_at_input (Routed o) unmoved = false
nothing_at_input Spilling unmoved = false

-- an output is free with nothing waiting, and no input waits for it
abbrev pub nothing_at_output : Option ℕ → ℕ → ℕ → Bool
nothing_at_output None untaken wanted = eqb untaken 0 && eqb wanted 0
nothing_at_output (Some i) untaken wanted = false

unfoldable pub nothing_held : Router → ℕ → Bool
nothing_held s port =
    nothing_at_input (mode_at s port) (store_at s (input_store port)).len
    && nothing_at_output (output_at s port).owner (store_at s (output_store port)).len (wanted_by s port)

-- what is held through a port of the router
unfoldable pub held_through : Router → ℕ → StillHeld
held_through s port =
    record {
      refusal = 0;
      mode = mode_at s port;
      unmoved = (store_at s (input_store port)).len;
      owner = (output_at s port).owner;
      untaken = (store_at s (output_store port)).len;
      wanted = wanted_by s port;
      unread = unread s;
      nothing = nothing_held s port;
    }

-- "other answers are zero"
unfoldable pub held_refused : ℕ → StillHeld
held_refused number =
    record {
      refusal = number;
      mode = Idle;
      unmoved = 0;
      owner = None;
      untaken = 0;
      wanted = 0;
      unread = 0;
      nothing = false;
    }

unfoldable pub still_held : Router → ℕ → StillHeld
still_held s port = pick (eqb (held_refusal s port) 0) (held_through s port) (held_refused (held_refusal s port))

-- The sets say which inputs, and no bit stands for a port above 10.
pub record SetsSay (s : Router) (port : ℕ) : Type 0 where
  pub wanted_bit : (i : ℕ) → i < 11 → wants (wanted_by s port) i ≡ awaits port (mode_at s i)
  pub wanted_below : wanted_by s port < 2048
  pub unread_bit : (i : ℕ) → i < 11 → wants (unread s) i ≡ unmoved_at s i
  pub unread_below : unread s < 2048

-- What "nothing is held" says of the state, one by one.
pub record NothingHeld (s : Router) (port : ℕ) : Type 0 where
  pub mode : mode_at s port ≡ Idle
  pub unmoved : (store_at s (input_store port)).len ≡ 0
  pub owner : (output_at s port).owner ≡ None
  pub untaken : (store_at s (output_store port)).len ≡ 0
  pub unwanted : (i : ℕ) → i < 11 → awaits port (mode_at s i) ≡ false

-- Nothing is unread: no input has an N-Char waiting, whatever port it is addressed to.
pub record NothingUnread (s : Router) : Type 0 where
  pub empty : (i : ℕ) → i < 11 → (store_at s (input_store i)).len ≡ 0

-- What the call's answer says: the two marks that a console looks at are on exactly where they should be, and neither is
-- taken for granted from a refusal.
pub record HeldSays : Type 0 where
  -- an input waits for an output just where part 2 of a round sees it wait, "high priority before low"
  pub waits : (port : ℕ) (m : Mode) → awaits port m ≡ waits_for port true m || waits_for port false m
  pub sets : (s : Router) (port : ℕ) → SetsSay s port
  pub nothing_held_lem : (s : Router) (port : ℕ) → (still_held s port).nothing ≡ true →
      ((still_held s port).refusal ≡ 0) × NothingHeld s port
  pub held_nothing : (s : Router) (port : ℕ) → (still_held s port).refusal ≡ 0 → NothingHeld s port →
      (still_held s port).nothing ≡ true
  pub nothing_unread : (s : Router) (port : ℕ) → (still_held s port).refusal ≡ 0 → (still_held s port).unread ≡ 0 →
      NothingUnread s
  pub unread_nothing : (s : Router) (port : ℕ) → NothingUnread s → (still_held s port).unread ≡ 0
