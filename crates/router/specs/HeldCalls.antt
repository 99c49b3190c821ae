-- What is still held through a port, as the call answers it, and as eleven words.
-- Assumes nothing.
use Rattle.std.specs.Prelude.{ℕ, List, [], ◌∷◌, replicate, Result, Ok, Err}
use Rattle.vocabulary.specs.Choice.{pick}
use Rattle.vocabulary.specs.declared.Refusal.{Refusal}
use Rattle.vocabulary.specs.Refusals.{STATE, number}
use Rattle.words.specs.Words.{truth_word, narrow}
use Rattle.router_ports.specs.Numbers.{mode_number, mode_wanted, mode_output, owner_number, owner_input}
use Rattle.router.specs.Held.{still_held, held_refused}
use Rattle.router.specs.declared.held.Held.{Held}
use Rattle.router.specs.Records.{StillHeld}
use Rattle.router_ports.specs.RouterWords.{router_of, is_router}

-- what a call that is not refused answers
abbrev pub through_port : Held → StillHeld
through_port held =
    record {
      refusal = 0;
      mode = held.mode;
      unmoved = held.unmoved;
      owner = held.owner;
      untaken = held.untaken;
      wanted = held.wanted;
      unread = held.unread;
      nothing = held.nothing;
    }

abbrev pub answered : Result Held Refusal → StillHeld
answered (Ok held) = through_port held
answered (Err r) = held_refused (number r)

-- the state is lent to be read alone
unfoldable pub held_told : List ℕ → ℕ → StillHeld
held_told words port = pick (is_router words) (still_held (router_of words) port) (held_refused (number STATE))

-- the input's mode, with the ports that it waits for, at which priority, or the output that it is routed to, and how many N-Chars
-- wait there; whether the output is held and by which input, and how many wait there; then the two sets, and whether nothing is held
unfoldable pub held_words : StillHeld → List ℕ
held_words a =
    mode_number a.mode ∷ (mode_wanted a.mode).ports ∷ truth_word (mode_wanted a.mode).high
    ∷ narrow (mode_output a.mode) ∷ narrow a.unmoved ∷ owner_number a.owner ∷ narrow (owner_input a.owner)
    ∷ narrow a.untaken ∷ a.wanted ∷ a.unread ∷ truth_word a.nothing ∷ []

pub record HeldLeft : Type 0 where
  pub refusal : ℕ
  pub out : List ℕ

unfoldable pub asked : StillHeld → HeldLeft
asked a = record { refusal = a.refusal; out = held_words a }

-- the state is lent to be read alone
unfoldable pub held_left : List ℕ → ℕ → HeldLeft
held_left words port =
    pick (is_router words) (asked (still_held (router_of words) port)) (record { refusal = number STATE; out = replicate 11 0 })
