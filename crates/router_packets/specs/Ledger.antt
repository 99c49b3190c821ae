-- Calls on the router one after the other, and what its hosts see of them: what was put to each input and taken from each output
-- by calls that were not refused, and the tables that runs were lent. A row is written between two calls, by lending the next run
-- another table.
-- Assumes nothing.
use Rattle.std.specs.Prelude.{List, [], ◌∷◌, ◌++◌, ℕ, eqb}
use Rattle.vocabulary.specs.Choice.{pick}
use Rattle.router_ports.specs.Places.{Machine}
use Rattle.router_rounds.specs.Model.{at}
use Rattle.router.specs.Calls.{Put, Took, Run, puts, takes, runs}

pub data Call : Type 0 where
  put : ℕ → ℕ → Call
  take : ℕ → Call
  run : List ℕ → ℕ → Call

pub record Ledger : Type 0 where
  pub now : Machine
  pub put : ℕ → List ℕ
  pub taken : ℕ → List ℕ
  pub lent : List (List ℕ)

-- nothing was called yet
unfoldable pub opened : Machine → Ledger
opened x = record { now = x; put = λ i. []; taken = λ o. []; lent = [] }

unfoldable pub books_put : Ledger → ℕ → ℕ → Put → Ledger
books_put l port n a =
    record {
      now = a.now;
      put = pick (eqb a.refusal 0) (at l.put port (l.put port ++ n ∷ [])) l.put;
      taken = l.taken;
      lent = l.lent;
    }

unfoldable pub books_take : Ledger → ℕ → Took → Ledger
books_take l port a =
    record {
      now = a.now;
      put = l.put;
      taken = pick (eqb a.refusal 0) (at l.taken port (l.taken port ++ a.taken ∷ [])) l.taken;
      lent = l.lent;
    }

unfoldable pub books_run : Ledger → List ℕ → Run → Ledger
books_run l table a =
    record {
      now = a.now;
      put = l.put;
      taken = l.taken;
      lent = pick (eqb a.refusal 0) (table ∷ l.lent) l.lent;
    }

abbrev pub books : Ledger → Call → Ledger
books l (put port n) = books_put l port n (puts l.now port n)
books l (take port) = books_take l port (takes l.now port)
books l (run table limit) = books_run l table (runs l.now table limit)

unfoldable pub after : Ledger → List Call → Ledger
after l [] = l
after l (c ∷ cs) = after (books l c) cs
