-- What each call on the words of a router leaves: what the router's own call leaves of the router that they load, saved; or
-- everything as it was, where they are no router.
-- Assumes nothing.
use Rattle.std.specs.Prelude.{ℕ, ◌≡◌, List, [], ◌∷◌}
use Rattle.vocabulary.specs.Choice.{pick}
use Rattle.vocabulary.specs.Refusals.{STATE, number}
use Rattle.words.specs.Arguments.{fitted}
use Rattle.router_ports.specs.Places.{machine}
use Rattle.router.specs.Refusals.{row_refusal}
use Rattle.router.specs.Calls.{Put, Took, Run, puts, takes, runs, writes_row, reads_row}
use Rattle.router.specs.Records.{RowRead}
use Rattle.router_ports.specs.RouterWords.{router_words, router_of, is_router}

pub record RouterLeft : Type 0 where
  pub refusal : ℕ
  pub state : List ℕ
  pub area : List ℕ
  pub out : List ℕ

-- `zeros`: the other answers of a call that is refused
unfoldable pub no_router : List ℕ → List ℕ → List ℕ → RouterLeft
no_router words area zeros = record { refusal = number STATE; state = words; area = area; out = zeros }

unfoldable pub put : Put → RouterLeft
put a = record { refusal = a.refusal; state = router_words a.now.router; area = a.now.area; out = [] }

unfoldable pub put_left : List ℕ → List ℕ → ℕ → ℕ → RouterLeft
put_left words area port n =
    pick (is_router words) (put (puts (machine (router_of words) area) port (fitted n))) (no_router words area [])

unfoldable pub took : Took → RouterLeft
took a =
    record { refusal = a.refusal; state = router_words a.now.router; area = a.now.area; out = a.taken ∷ [] }

unfoldable pub take_left : List ℕ → List ℕ → ℕ → RouterLeft
take_left words area port =
    pick (is_router words) (took (takes (machine (router_of words) area) port)) (no_router words area (0 ∷ []))

unfoldable pub ran : Run → RouterLeft
ran a =
    record {
      refusal = a.refusal;
      state = router_words a.now.router;
      area = a.now.area;
      out = a.rounds ∷ a.moved ∷ a.errors ∷ [];
    }

unfoldable pub run_left : List ℕ → List ℕ → List ℕ → ℕ → RouterLeft
run_left words area table limit =
    pick (is_router words) (ran (runs (machine (router_of words) area) table (fitted limit)))
    (no_router words area (0 ∷ 0 ∷ 0 ∷ []))

-- the refusal of a call on words that keep no router
abbrev pub state_first : List ℕ → ℕ → ℕ
state_first words later = pick (is_router words) later (number STATE)

-- rows: the state is lent to be read alone
abbrev pub row_refused : List ℕ → ℕ → ℕ
row_refused words row = state_first words (row_refusal (router_of words) row)

unfoldable pub table_left : List ℕ → List ℕ → ℕ → ℕ → List ℕ
table_left words table row value = pick (is_router words) (writes_row (router_of words) table row value) table

unfoldable pub row_left : List ℕ → List ℕ → ℕ → RowRead
row_left words table row =
    pick (is_router words) (reads_row (router_of words) table row) (record { refusal = number STATE; value = 0 })

-- "State, stores and the time record stay; other answers are zero": of a call that is refused
abbrev pub Stays : List ℕ → List ℕ → List ℕ → RouterLeft → Type 0
Stays words area zeros left =
    (left.refusal ≡ 0 → ⊥) → (left.state ≡ words) × (left.area ≡ area) × (left.out ≡ zeros)

pub record RouterStays : Type 0 where
  pub put_stays : (words area : List ℕ) (port n : ℕ) → Stays words area [] (put_left words area port n)
  pub take_stays : (words area : List ℕ) (port : ℕ) → Stays words area (0 ∷ []) (take_left words area port)
  pub run_stays : (words area table : List ℕ) (limit : ℕ) →
      Stays words area (0 ∷ 0 ∷ 0 ∷ []) (run_left words area table limit)
  pub table_stays : (words table : List ℕ) (row value : ℕ) → (row_refused words row ≡ 0 → ⊥) →
      table_left words table row value ≡ table
