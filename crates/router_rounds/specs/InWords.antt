-- The router's state in its words, and its lent area, as a round sees and changes them in place. What is seen is what
-- the words load as; what is changed are the words of one port or store.
-- Assumes nothing.
use Rattle.std.specs.Prelude.{ℕ, ◌≡◌, ◌+◌, Bool, true, false, not, ◌||◌, List}
use Rattle.router_ports.specs.Ports.{mode_at, output_at, store_at}
use Rattle.router_ports.specs.Places.{Machine, machine, empty_at, full_at, front_at, put_at}
use Rattle.router_ports.specs.declared.Mode.{Mode}
use Rattle.router_ports.specs.declared.Mode.TheVariants.{Idle, Waiting, Routed, Spilling}
use Rattle.router_ports.specs.declared.Output.{Output}
use Rattle.router_ports.specs.RouterWords.{router_of, router_words, with_mode_in, with_output_in, without_front_in, with_behind_in}
use Rattle.router_rounds.specs.Acts.{Acts, Tally}
use Rattle.router_rounds.specs.declared.Totals.{Totals}
use Rattle.router_rounds.specs.declared.counts.Deed.{Deed}
use Rattle.router_rounds.specs.declared.counts.Deed.TheVariants.{Nothing, Change, AddressError, Move}

pub record Words : Type 0 where
  pub state : List ℕ
  pub area : List ℕ

abbrev pub kept : List ℕ → List ℕ → Words
kept state area = record { state = state; area = area }

abbrev pub loaded : Words → Machine
loaded w = machine (router_of w.state) w.area

abbrev pub in_words : Acts Words
in_words =
    record {
      mode = λ (w : Words) (i : ℕ). mode_at (router_of w.state) i;
      output = λ (w : Words) (o : ℕ). output_at (router_of w.state) o;
      is_empty = λ (w : Words) (k : ℕ). empty_at (loaded w) k;
      is_full = λ (w : Words) (k : ℕ). full_at (loaded w) k;
      front = λ (w : Words) (k : ℕ). front_at (loaded w) k;
      set_mode = λ (w : Words) (i : ℕ) (m : Mode). kept (with_mode_in w.state i m) w.area;
      set_output = λ (w : Words) (o : ℕ) (out : Output). kept (with_output_in w.state o out) w.area;
      drop_front = λ (w : Words) (k : ℕ). kept (without_front_in w.state w.area k) w.area;
      append = λ (w : Words) (k n : ℕ).
          kept (with_behind_in w.state w.area k n) (put_at w.area k (store_at (router_of w.state) k) n);
    }

-- what a function of rounds has counted, with the words as they stand
abbrev pub tally : Totals → Words → Tally Words
tally c w = record { now = w; rounds = c.rounds; moved = c.moved; errors = c.errors; changed = c.changed }

-- what is counted where nothing is done
abbrev pub uncounted : Totals
uncounted = record { rounds = 0; moved = 0; errors = 0; changed = false }

-- the counts with one deed for a port
abbrev pub counted : Totals → Deed → Totals
counted c Nothing = c
counted c Change = record { rounds = c.rounds; moved = c.moved; errors = c.errors; changed = true }
counted c AddressError = record { rounds = c.rounds; moved = c.moved; errors = c.errors + 1; changed = true }
counted c Move = record { rounds = c.rounds; moved = c.moved + 1; errors = c.errors; changed = true }

-- the counts with what a part of a round has done
abbrev pub added : Totals → Totals → Totals
added c d =
    record {
      rounds = c.rounds + d.rounds;
      moved = c.moved + d.moved;
      errors = c.errors + d.errors;
      changed = c.changed || d.changed;
    }

-- an idle input with an N-Char, or a waiting one: where there is none, parts 1 and 2 change nothing
abbrev pub stirs : Mode → Bool → Bool
stirs Idle none = not none
stirs (Waiting w) none = true
stirs (Routed o) none = false
stirs Spilling none = false

-- the words that a state and its area are saved as
abbrev pub saved_of : Machine → Words
saved_of x = kept (router_words x.router) x.area

-- the same counts, and the words of what was left
pub record SavedRun (t : Tally Machine) (u : Tally Words) : Type 0 where
  pub now : u.now ≡ saved_of t.now
  pub rounds : t.rounds ≡ u.rounds
  pub moved : t.moved ≡ u.moved
  pub errors : t.errors ≡ u.errors
