-- A call on the words of a router leaves the words of what it leaves of the router, and a refused one leaves everything.
-- Assumes nothing.
use mathlib.Core.Path.{◌≡◌, refl, sym, ap, ◌∙◌}
use mathlib.Core.Bool.{Bool, true, false}
use mathlib.Core.List.{List, [], ◌∷◌}
use Prim.Native.Nat.{ℕ, ◌+◌, ◌<◌}
use native.Mathlib.Omega.{arith}
use lib.Dec.{eqb}
use lib.ListN.{length, replicate}
use borrow.Author.Tests.{eq-eqb, ne_eqb}
use Rattle.vocabulary.specs.Choice.{pick}
use Rattle.vocabulary.specs.declared.Refusal.{Refusal}
use Rattle.vocabulary.specs.Refusals.{number}
use Rattle.vocabulary.proofs.RefusalLaws.{not_none}
use Rattle.store.specs.Changes.{put_store, without_first}
use Rattle.words.specs.Arguments.{fitted}
use Rattle.words.proofs.SameLaws.{same_is}
use Rattle.router_table.specs.Rows.{row_at, with_row}
use Rattle.router_ports.specs.Ports.{store_at}
use Rattle.router_ports.specs.Places.{Machine, machine, size_in, places_at, front_at, put_at, without_front, with_behind}
use Rattle.router_ports.proofs.StateLaws.{Shape}
use Rattle.router_ports.specs.RouterWords.{input_in, output_in, store_in, router_words, router_of, is_router}
use Rattle.router_ports.specs.RouterWords.{with_store_in, without_front_in, with_behind_in}
use Rattle.router_ports.proofs.ListedLaws.{length_listed}
use Rattle.router_ports.proofs.LayoutLaws.{store_saved}
use Rattle.router_ports.proofs.AcceptedLaws.{accepted_sound}
use Rattle.router_ports.proofs.FitsProof.{size_small}
use Rattle.router_rounds.specs.Acts.{Tally}
use Rattle.router_rounds.specs.Rounds.{begun, rounds}
use Rattle.router_rounds.specs.InWords.{Words, kept, in_words, saved_of, SavedRun}
use Rattle.router_rounds.specs.Exact.{exact}
use Rattle.router_rounds.proofs.WordsProof.{runs_in_words}
use Rattle.router.specs.Refusals.{put_refusal, take_refusal, run_refusal, row_refusal, held_refusal}
use Rattle.router.specs.Calls.{puts, took_one, takes, told, runs, writes_row, reads_row}
use Rattle.router.specs.RouterCalls.{RouterLeft, no_router, put, put_left, took, take_left, ran, run_left}
use Rattle.router.specs.RouterCalls.{state_first, row_refused, table_left, row_left}
use Rattle.router.specs.Records.{RowRead}
use Rattle.router.specs.Held.{held_through, held_refused, still_held}
use Rattle.router.specs.HeldCalls.{held_words, asked, held_told, held_left}
use Rattle.router.proofs.RefusalLaws.{lent_accepts, port_below, router_first}
use Rattle.router.proofs.StayLaws.{table_stays}

abbrev pub left_of : Tally Words → RouterLeft
left_of u =
    record {
      refusal = 0;
      state = u.now.state;
      area = u.now.area;
      out = u.rounds ∷ u.moved ∷ u.errors ∷ [];
    }

area_behind : (x : Machine) (k n : ℕ) → put_at x.area k (store_at x.router k) n ≡ (with_behind x k n).area
unfolding with_behind
area_behind x k n = refl

area_without : (x : Machine) (k : ℕ) → (without_front x k).area ≡ x.area
unfolding without_front
area_without x k = refl

-- a run on the words of a router that is not refused tells what a run of the router tells
pub saved_run : (x : Machine) (table : List ℕ) (limit : ℕ) → Shape x.router → run_refusal x limit ≡ 0 →
    SavedRun (rounds exact table limit (begun x)) (rounds in_words table limit (begun (saved_of x)))
saved_run x table limit shape accepted =
    let ok = lent_accepts x _ accepted in
    runs_in_words (length x.area) (size_small x.area ok.area) table x
    (accepted_sound x.router x.area shape ok.ports ok.stores) limit

pub loaded_shape : (words : List ℕ) → Shape (router_of words)
unfolding router_of
loaded_shape words =
    record {
      inputs = length_listed (input_in words) 0 11;
      outputs = length_listed (output_in words) 0 11;
      stores = length_listed (store_in words) 0 22;
    }

module _ (words area : List ℕ) (is : is_router words ≡ true) where
  abbrev x : Machine
  x = machine (router_of words) area

  own : words ≡ router_words (router_of words)
  own = same_is words (router_words (router_of words)) is

  pub ran_in_words : (table : List ℕ) (limit : ℕ) → run_refusal x limit ≡ 0 →
      left_of (rounds in_words table limit (begun (kept words area))) ≡ ran (runs x table limit)
  unfolding ran runs told
  ran_in_words table limit accepted =
      let same = saved_run x table limit (loaded_shape words) accepted in
      ap (λ (w : List ℕ). left_of (rounds in_words table limit (begun (kept w area)))) own
      ∙ rw (eq-eqb _ _ accepted, same.now, same.rounds, same.moved, same.errors)

  module _ (k : ℕ) (h : k < 22) where
    pub behind_in_words : (n : ℕ) → with_behind_in words area k n ≡ router_words (with_behind x k n).router
    unfolding with_behind_in with_behind
    behind_in_words n =
        let st = put_store (size_in area) (store_at (router_of words) k) n in
        ap (λ (w : List ℕ). with_store_in w k st) own ∙ store_saved (router_of words) (loaded_shape words) k st h

    pub without_in_words : without_front_in words area k ≡ router_words (without_front x k).router
    unfolding without_front_in without_front
    without_in_words =
        let st = without_first (places_at area k) (store_at (router_of words) k) in
        ap (λ (w : List ℕ). with_store_in w k st) own ∙ store_saved (router_of words) (loaded_shape words) k st h

-- What a call that is not refused leaves.

module _ (words area : List ℕ) where
  abbrev lent : Machine
  lent = machine (router_of words) area

  pub put_done : (port n : ℕ) → 0 ≡ state_first words (put_refusal lent port (fitted n)) →
      record {
        refusal = 0;
        state = with_behind_in words area port (fitted n);
        area = put_at area port (store_at (router_of words) port) (fitted n);
        out = [];
      }
      ≡ put_left words area port n
  unfolding put_left put puts
  put_done port n e =
      let passed = router_first (is_router words) (put_refusal lent port (fitted n)) e in
      let below = port_below lent port _ passed.1 in
      rw (
        passed.0,
        eq-eqb _ _ passed.1,
        behind_in_words words area passed.0 port (omega (arith, below)) (fitted n),
        area_behind lent port (fitted n),
      )

  pub take_done : (port : ℕ) → 0 ≡ state_first words (take_refusal lent port) →
      record {
        refusal = 0;
        state = without_front_in words area (11 + port);
        area = area;
        out = front_at lent (11 + port) ∷ [];
      }
      ≡ take_left words area port
  unfolding take_left took takes took_one
  take_done port e =
      let passed = router_first (is_router words) (take_refusal lent port) e in
      let below = port_below lent port _ passed.1 in
      rw (
        passed.0,
        eq-eqb _ _ passed.1,
        without_in_words words area passed.0 (11 + port) (omega (arith, below)),
        area_without lent (11 + port),
      )

  pub run_done : (table : List ℕ) (limit : ℕ) → 0 ≡ state_first words (run_refusal lent (fitted limit)) →
      left_of (rounds in_words table (fitted limit) (begun (kept words area))) ≡ run_left words area table limit
  unfolding run_left
  run_done table limit e =
      let passed = router_first (is_router words) (run_refusal lent (fitted limit)) e in
      ran_in_words words area passed.0 table (fitted limit) passed.1 ∙ sym (rw passed.0)

-- the words of what is told are the words that are left
pub asked_told : (words : List ℕ) (port : ℕ) → asked (held_told words port) ≡ held_left words port
unfolding held_told held_left asked held_refused held_words
asked_told words port = go (is_router words)
  where
    go : (b : Bool) →
        asked (pick b (still_held (router_of words) port) (held_refused 1))
        ≡ pick b (asked (still_held (router_of words) port)) (record { refusal = 1; out = replicate 11 0 })
    go true = refl
    go false = refl

-- What a refused call leaves: the words keep no router, or its own refusal is told, any number but 0.

abbrev stays : List ℕ → List ℕ → List ℕ → ℕ → RouterLeft
stays words area zeros n = record { refusal = n; state = words; area = area; out = zeros }

abbrev no_row : ℕ → RowRead
no_row n = record { refusal = n; value = 0 }

module _ (words : List ℕ) (n : ℕ) (some : n ≡ 0 → ⊥) where
  either_refused : {A : Type 0} (later : ℕ) (answer : ℕ → A) (accepted : A) → n ≡ state_first words later →
      (is_router words ≡ true → n ≡ later → eqb later 0 ≡ false → answer later ≡ accepted) →
      answer n ≡ pick (is_router words) accepted (answer 1)
  either_refused later answer accepted e told = go (is_router words) refl e
    where
      go : (b : Bool) → is_router words ≡ b → n ≡ pick b later 1 → answer n ≡ pick b accepted (answer 1)
      go true is same = ap answer same ∙ told is same (ne_eqb later 0 (λ none. some (same ∙ none)))
      go false is same = ap answer same

  own_words : is_router words ≡ true → words ≡ router_words (router_of words)
  own_words is = same_is words (router_words (router_of words)) is

  module _ (area : List ℕ) where
    pub put_refused_lem : (port nchar : ℕ) → n ≡ state_first words (put_refusal (lent words area) port nchar) →
        stays words area [] n ≡ pick (is_router words) (put (puts (lent words area) port nchar)) (no_router words area [])
    unfolding put puts no_router
    put_refused_lem port nchar e =
        either_refused (put_refusal (lent words area) port nchar) (stays words area []) (put (puts (lent words area) port nchar)) e
        (λ is told nonzero. rw (nonzero, ← own_words is))

    pub take_refused_lem : (port : ℕ) → n ≡ state_first words (take_refusal (lent words area) port) →
        stays words area (0 ∷ []) n
        ≡ pick (is_router words) (took (takes (lent words area) port)) (no_router words area (0 ∷ []))
    unfolding took takes no_router
    take_refused_lem port e =
        either_refused (take_refusal (lent words area) port) (stays words area (0 ∷ [])) (took (takes (lent words area) port)) e
        (λ is told nonzero. rw (nonzero, ← own_words is))

    pub run_refused_lem : (table : List ℕ) (limit : ℕ) → n ≡ state_first words (run_refusal (lent words area) limit) →
        stays words area (0 ∷ 0 ∷ 0 ∷ []) n
        ≡ pick (is_router words) (ran (runs (lent words area) table limit)) (no_router words area (0 ∷ 0 ∷ 0 ∷ []))
    unfolding ran runs no_router
    run_refused_lem table limit e =
        either_refused (run_refusal (lent words area) limit) (stays words area (0 ∷ 0 ∷ 0 ∷ []))
        (ran (runs (lent words area) table limit)) e
        (λ is told nonzero. rw (nonzero, ← own_words is))

  pub row_refused_lem : (table : List ℕ) (row : ℕ) → n ≡ row_refused words row → no_row n ≡ row_left words table row
  unfolding row_left reads_row
  row_refused_lem table row e =
      either_refused (row_refusal (router_of words) row) no_row (reads_row (router_of words) table row) e
      (λ is told nonzero. rw nonzero)

  -- what is still held

  none_told : (port : ℕ) → n ≡ state_first words (held_refusal (router_of words) port) →
      held_refused n ≡ held_told words port
  unfolding held_told still_held
  none_told port e =
      either_refused (held_refusal (router_of words) port) held_refused (still_held (router_of words) port) e
      (λ is told nonzero. rw nonzero)

  pub held_words_refused : (port : ℕ) → n ≡ state_first words (held_refusal (router_of words) port) →
      record { refusal = n; out = replicate 11 0 } ≡ held_left words port
  unfolding asked held_refused held_words
  held_words_refused port e = ap asked (none_told port e) ∙ asked_told words port

-- The same of a refusal, as the calls answer it.

module _ (words : List ℕ) (r : Refusal) where
  module _ (area : List ℕ) where
    pub put_refused : (port n : ℕ) → number r ≡ state_first words (put_refusal (lent words area) port (fitted n)) →
        stays words area [] (number r) ≡ put_left words area port n
    unfolding put_left
    put_refused port n e = put_refused_lem words (number r) (not_none r) area port (fitted n) e

    pub take_refused : (port : ℕ) → number r ≡ state_first words (take_refusal (lent words area) port) →
        stays words area (0 ∷ []) (number r) ≡ take_left words area port
    unfolding take_left
    take_refused port e = take_refused_lem words (number r) (not_none r) area port e

    pub run_refused : (table : List ℕ) (limit : ℕ) →
        number r ≡ state_first words (run_refusal (lent words area) (fitted limit)) →
        stays words area (0 ∷ 0 ∷ 0 ∷ []) (number r) ≡ run_left words area table limit
    unfolding run_left
    run_refused table limit e = run_refused_lem words (number r) (not_none r) area table (fitted limit) e

  pub read_refused : (table : List ℕ) (row : ℕ) → number r ≡ row_refused words row →
      no_row (number r) ≡ row_left words table row
  read_refused table row e = row_refused_lem words (number r) (not_none r) table row e

  pub write_refused : (table : List ℕ) (row value : ℕ) → number r ≡ row_refused words row →
      table_left words table row value ≡ table
  write_refused table row value e = table_stays words table row value (λ none. not_none r (e ∙ none))

  pub held_refused_lem : (port : ℕ) → number r ≡ state_first words (held_refusal (router_of words) port) →
      held_refused (number r) ≡ held_told words port
  held_refused_lem port e = none_told words (number r) (not_none r) port e

pub read_done : (words table : List ℕ) (row : ℕ) → 0 ≡ row_refused words row →
    record { refusal = 0; value = row_at table row } ≡ row_left words table row
unfolding row_left reads_row
read_done words table row e =
    let passed = router_first (is_router words) (row_refusal (router_of words) row) e in
    rw (passed.0, eq-eqb _ _ passed.1)

pub write_done : (words table : List ℕ) (row value : ℕ) → 0 ≡ row_refused words row →
    with_row table row value ≡ table_left words table row value
unfolding table_left writes_row
write_done words table row value e =
    let passed = router_first (is_router words) (row_refusal (router_of words) row) e in
    rw (passed.0, eq-eqb _ _ passed.1)

pub held_done : (words : List ℕ) (port : ℕ) → 0 ≡ state_first words (held_refusal (router_of words) port) →
    held_through (router_of words) port ≡ held_told words port
unfolding held_told still_held
held_done words port e =
    let passed = router_first (is_router words) (held_refusal (router_of words) port) e in
    rw (passed.0, eq-eqb _ _ passed.1)
