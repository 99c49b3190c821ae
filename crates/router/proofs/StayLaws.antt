-- A refused call hands the router back, and its words are those that it was loaded from.
-- Assumes nothing.
use Prim.Native.Nat.{ℕ}
use mathlib.Core.Path.{◌≡◌, refl, sym}
use mathlib.Core.Bool.{Bool, true, false}
use mathlib.Core.List.{List, [], ◌∷◌}
use lib.Dec.{eqb}
use borrow.Author.Tests.{eqb-true}
use Rattle.vocabulary.specs.Choice.{pick}
use Rattle.words.specs.Arguments.{fitted}
use Rattle.words.proofs.SameLaws.{same_is}
use Rattle.router_ports.specs.Places.{Machine, machine}
use Rattle.router_ports.specs.Records.{Router}
use Rattle.router_rounds.specs.Acts.{Tally}
use Rattle.router_table.specs.Rows.{with_row}
use Rattle.router.specs.Refusals.{put_refusal, take_refusal, run_refusal, row_refusal}
use Rattle.router.specs.Calls.{puts, took_one, takes, told, runs, writes_row}
use Rattle.router.specs.RouterCalls.{row_refused, table_left}
use Rattle.router_ports.specs.RouterWords.{router_words, router_of, is_router}
use Rattle.router.specs.RouterCalls.{RouterLeft, no_router, put, put_left, took, take_left, ran, run_left}
use Rattle.router.specs.RouterCalls.{Stays, RouterStays}

own : (words : List ℕ) → is_router words ≡ true → router_words (router_of words) ≡ words
own words p = sym (same_is words _ p)

-- words that are none of a router stay, and so does the area
either : (words area zeros : List ℕ) (test : Bool) (left : RouterLeft) → (test ≡ true → Stays words area zeros left) →
    Stays words area zeros (pick test left (no_router words area zeros))
unfolding no_router
either words area zeros true left f nonzero = f refl nonzero
either words area zeros false left f nonzero = (refl, refl, refl)

put_kept : (words area : List ℕ) (r : Router) (after : Machine) (n : ℕ) (test : Bool) → router_words r ≡ words →
    Stays words area [] (put (pick test (record { refusal = 0; now = after }) (record { refusal = n; now = machine r area })))
unfolding put
put_kept words area r after n true same nonzero = absurd (nonzero refl)
put_kept words area r after n false same nonzero = (same, refl, refl)

put_stays : (words area : List ℕ) (port n : ℕ) → Stays words area [] (put_left words area port n)
unfolding put_left puts
put_stays words area port n =
    either words area [] (is_router words) _
    (λ p.
    put_kept words area (router_of words) _ _
    (eqb (put_refusal (machine (router_of words) area) port (fitted n)) 0) (own words p))

take_kept : (words area : List ℕ) (r : Router) (port n : ℕ) (test : Bool) → router_words r ≡ words →
    Stays words area (0 ∷ [])
    (took (pick test (took_one (machine r area) port) (record { refusal = n; now = machine r area; taken = 0 })))
unfolding took took_one
take_kept words area r port n true same nonzero = absurd (nonzero refl)
take_kept words area r port n false same nonzero = (same, refl, refl)

take_stays : (words area : List ℕ) (port : ℕ) → Stays words area (0 ∷ []) (take_left words area port)
unfolding take_left takes
take_stays words area port =
    either words area (0 ∷ []) (is_router words) _
    (λ p.
    take_kept words area (router_of words) port _
    (eqb (take_refusal (machine (router_of words) area) port) 0) (own words p))

run_kept : (words area : List ℕ) (r : Router) (t : Tally Machine) (n : ℕ) (test : Bool) → router_words r ≡ words →
    Stays words area (0 ∷ 0 ∷ 0 ∷ [])
    (ran (pick test (told t) (record { refusal = n; now = machine r area; rounds = 0; moved = 0; errors = 0 })))
unfolding ran told
run_kept words area r t n true same nonzero = absurd (nonzero refl)
run_kept words area r t n false same nonzero = (same, refl, refl)

run_stays : (words area table : List ℕ) (limit : ℕ) → Stays words area (0 ∷ 0 ∷ 0 ∷ []) (run_left words area table limit)
unfolding run_left runs
run_stays words area table limit =
    either words area (0 ∷ 0 ∷ 0 ∷ []) (is_router words) _
    (λ p.
    run_kept words area (router_of words) _ _
    (eqb (run_refusal (machine (router_of words) area) (fitted limit)) 0) (own words p))

row_kept : (s : Router) (table : List ℕ) (row value : ℕ) (test : Bool) → eqb (row_refusal s row) 0 ≡ test →
    (row_refusal s row ≡ 0 → ⊥) → pick test (with_row table row value) table ≡ table
row_kept s table row value true p nonzero = absurd (nonzero (eqb-true (row_refusal s row) 0 p))
row_kept s table row value false p nonzero = refl

either_row : (table left : List ℕ) (this that : ℕ) (test : Bool) → ((this ≡ 0 → ⊥) → left ≡ table) →
    (pick test this that ≡ 0 → ⊥) → pick test left table ≡ table
either_row table left this that true f nonzero = f nonzero
either_row table left this that false f nonzero = refl

pub table_stays : (words table : List ℕ) (row value : ℕ) → (row_refused words row ≡ 0 → ⊥) →
    table_left words table row value ≡ table
unfolding table_left writes_row
table_stays words table row value =
    either_row table _ (row_refusal (router_of words) row) _ (is_router words)
    (row_kept (router_of words) table row value (eqb (row_refusal (router_of words) row) 0) refl)

pub router_stays : RouterStays
router_stays =
    record { put_stays = put_stays; take_stays = take_stays; run_stays = run_stays; table_stays = table_stays }
