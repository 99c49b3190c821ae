-- The candidates for an output, one by one: the k-th is the input k + 1 behind the last granted, at high priority below 11.
-- Assumes nothing.
use Rattle.std.specs.Prelude.{Option, None, Some, is_some}
use mathlib.Core.Path.{◌≡◌, refl, sym, ap, ◌∙◌}
use mathlib.Core.Bool.{Bool, true, false, not, false≢true}
use mathlib.Core.List.{List, [], ◌∷◌, ◌++◌}
use Prim.Native.Nat.{ℕ, zero, suc, ◌+◌, ◌-◌, ◌%◌, ◌≤◌, ◌<◌}
use native.Mathlib.Nat.{add-zero, not-suc-le-zero}
use native.Mathlib.Numerals.{add-one}
use native.Mathlib.Decide.{dec_lt}
use native.Mathlib.Omega.{arith}
use lib.Dec.{ltb}
use lib.ListN.{drop, length, drop_of_length-le}
use lib.Seq.{drop-append-le, drop-append-add}
use borrow.Author.Tests.{lt-ltb, le-ltb}
use Rattle.vocabulary.specs.Choice.{pick}
use Rattle.router_ports.specs.Each.{each, any}
use Rattle.store.specs.Ring.{empty}
use Rattle.router_ports.specs.Ports.{mode_at, store_at, input_store}
use Rattle.router_ports.specs.declared.Mode.{Mode}
use Rattle.router_ports.specs.declared.Mode.TheVariants.{Idle, Waiting, Routed, Spilling}
use Rattle.router_ports.proofs.EachLaws.{none_at}
use Rattle.router_ports.specs.RouterWords.{router_of}
use Rattle.router_rounds.specs.Acts.{Acts, Tally}
use Rattle.router_rounds.specs.Grants.{Candidate, cyclic, candidates, first_that}
use Rattle.router_rounds.specs.Grants.{is_free, waits_for, fits, chosen, granted, grants_to, grants, part2}
use Rattle.router_rounds.specs.Addresses.{reads, if_idle, addresses, part1}
use Rattle.router_rounds.specs.InWords.{stirs}

abbrev pub candidate : ℕ → ℕ → Candidate
candidate last k = record { high = ltb k 11; input = (last + (k + 1)) % 11 }

cyclic_next : (high : Bool) (last on n k : ℕ) → k < n →
    drop k (cyclic high last on n)
    ≡ record { high = high; input = (last + (on + k)) % 11 } ∷ drop (suc k) (cyclic high last on n)
unfolding cyclic
cyclic_next high last on zero k h = absurd (not-suc-le-zero h)
cyclic_next high last on (suc n) zero h = rw (add-zero on)
cyclic_next high last on (suc n) (suc k) h =
    let same : on + 1 + k ≡ on + suc k = omega arith in
    cyclic_next high last (on + 1) n k (omega arith)
    ∙ ap (λ (m : ℕ). record { high = high; input = (last + m) % 11 } ∷ drop (suc k) (cyclic high last (on + 1) n)) same

cyclic_length : (high : Bool) (last on n : ℕ) → length (cyclic high last on n) ≡ n
unfolding cyclic
cyclic_length high last on zero = refl
cyclic_length high last on (suc n) = ap suc (cyclic_length high last (on + 1) n)

module _ (xs ys : List Candidate) (c : Candidate) where
  next_in_first : (k : ℕ) → k < length xs → drop k xs ≡ c ∷ drop (suc k) xs →
      drop k (xs ++ ys) ≡ c ∷ drop (k + 1) (xs ++ ys)
  next_in_first k h e =
      drop-append-le k xs ys (omega arith)
      ∙ ap (λ (l : List Candidate). l ++ ys) e
      ∙ ap (λ (l : List Candidate). c ∷ l)
      (sym (ap (λ (m : ℕ). drop m (xs ++ ys)) (add-one k) ∙ drop-append-le (suc k) xs ys h))

  next_in_second : (k j : ℕ) → k ≡ length xs + j → drop j ys ≡ c ∷ drop (suc j) ys →
      drop k (xs ++ ys) ≡ c ∷ drop (k + 1) (xs ++ ys)
  next_in_second k j h e =
      let one_on : k + 1 ≡ length xs + suc j = omega arith in
      ap (λ (m : ℕ). drop m (xs ++ ys)) h
      ∙ drop-append-add xs ys j
      ∙ e
      ∙ ap (λ (l : List Candidate). c ∷ l)
      (sym (ap (λ (m : ℕ). drop m (xs ++ ys)) one_on ∙ drop-append-add xs ys (suc j)))

next_candidate : (last k : ℕ) → k < 22 →
    drop k (candidates last) ≡ candidate last k ∷ drop (k + 1) (candidates last)
unfolding candidates
next_candidate last k h = go (dec_lt k 11)
  where
    go : Dec (k < 11) → drop k (candidates last) ≡ candidate last k ∷ drop (k + 1) (candidates last)
    go (yes i) =
        let on : 1 + k ≡ k + 1 = omega arith in
        let size : length (cyclic true last 1 11) ≡ 11 = cyclic_length true last 1 11 in
        next_in_first (cyclic true last 1 11) (cyclic false last 1 11) (candidate last k) k (omega arith)
        (rw (lt-ltb k 11 i, ← on) (cyclic_next true last 1 11 k i))
    go (no o) =
        let past : 11 ≤ k = omega (arith, o) in
        let size : length (cyclic true last 1 11) ≡ 11 = cyclic_length true last 1 11 in
        let turn : (last + (1 + (k - 11))) % 11 ≡ (last + (k + 1)) % 11 = omega arith in
        next_in_second (cyclic true last 1 11) (cyclic false last 1 11) (candidate last k) k (k - 11) (omega arith)
        (rw (le-ltb k 11 past, ← turn) (cyclic_next false last 1 11 (k - 11) (omega arith)))

no_more : (last k : ℕ) → 22 ≤ k → drop k (candidates last) ≡ []
unfolding candidates cyclic
no_more last k h = drop_of_length-le (candidates last) h

module _ (fits : Candidate → Bool) (last k : ℕ) where
  abbrev left : ℕ → Option ℕ
  left j = first_that fits (drop j (candidates last))

  pub finds : k < 22 → fits (candidate last k) ≡ true → left k ≡ Some ((last + (k + 1)) % 11)
  unfolding first_that
  finds h e = ap (first_that fits) (next_candidate last k h) ∙ rw e

  pub passes : k < 22 → fits (candidate last k) ≡ false → left k ≡ left (k + 1)
  unfolding first_that
  passes h e = ap (first_that fits) (next_candidate last k h) ∙ rw e

  pub runs_out : 22 ≤ k → left k ≡ None
  unfolding first_that
  runs_out h = ap (first_that fits) (no_more last k h)

pub free_as : (w : Option ℕ) (b : Bool) → is_some w ≡ b → is_free w ≡ not b
free_as None b e = ap not e
free_as (Some i) b e = ap not e

-- what one output does: it keeps its owner, takes nobody, or takes the first that fits
module _ {X : Type 0} (M : Acts X) (t : Tally X) (o : ℕ) where
  pub keeps_owner : is_free (M.output t.now o).owner ≡ false → grants M t o ≡ t
  unfolding grants
  keeps_owner e = rw e

  module _ (e : is_free (M.output t.now o).owner ≡ true) where
    pub takes_nobody : chosen M t.now o ≡ None → grants M t o ≡ t
    unfolding grants
    takes_nobody n = rw (e, n)

    pub takes : (i : ℕ) → chosen M t.now o ≡ Some i → grants M t o ≡ granted M t o i
    unfolding grants
    takes i n = rw (e, n)

-- where no input waits, part 2 does nothing

not_waiting : (o : ℕ) (high none : Bool) (m : Mode) → stirs m none ≡ false → waits_for o high m ≡ false
not_waiting o high none Idle e = refl
not_waiting o high none (Waiting w) e = absurd (false≢true (sym e))
not_waiting o high none (Routed p) e = refl
not_waiting o high none Spilling e = refl

none_fits : (fit : Candidate → Bool) → ((c : Candidate) → fit c ≡ false) → (cs : List Candidate) → first_that fit cs ≡ None
unfolding first_that
none_fits fit none [] = refl
none_fits fit none (c ∷ cs) = rw (none c, none_fits fit none cs)

each_none : {S : Type 0} (f : S → ℕ → S) (s : S) (bound : ℕ) → ((i : ℕ) → i < bound → f s i ≡ s) →
    (from count : ℕ) → from + count ≤ bound → each f from count s ≡ s
unfolding each
each_none f s bound still from zero h = refl
each_none f s bound still from (suc count) h =
    ap (each f (from + 1) count) (still from (omega (arith, h)))
    ∙ each_none f s bound still (from + 1) count (omega (arith, h))

module _ {X : Type 0} (M : Acts X) (t : Tally X)
    (unwaited : (o : ℕ) (high : Bool) (i : ℕ) → waits_for o high (M.mode t.now i) ≡ false) where
  grants_nobody : (o : ℕ) → grants M t o ≡ t
  unfolding grants
  grants_nobody o =
      ap (λ (c : Option ℕ). pick (is_free (M.output t.now o).owner) (grants_to M t o c) t)
      (none_fits (fits M t.now o) (λ c. unwaited o c.high c.input)
      (candidates (M.output t.now o).last))
      ∙ go (is_free (M.output t.now o).owner)
    where
      go : (b : Bool) → pick b t t ≡ t
      go true = refl
      go false = refl

  pub grants_still : part2 M t ≡ t
  unfolding part2
  grants_still = each_none (grants M) t 11 (λ o h. grants_nobody o) 0 11 (omega arith)

module _ {X : Type 0} (M : Acts X) (t : Tally X)
    (still : (i : ℕ) → i < 11 → stirs (M.mode t.now i) (M.is_empty t.now (input_store i)) ≡ false) where
  reads_nothing : (table : List ℕ) (i : ℕ) → i < 11 → addresses M table t i ≡ t
  unfolding addresses reads
  reads_nothing table i h = go (M.mode t.now i) (M.is_empty t.now (input_store i)) refl (still i h)
    where
      go : (m : Mode) (none : Bool) → M.is_empty t.now (input_store i) ≡ none → stirs m none ≡ false → if_idle M table t i m ≡ t
      go Idle true e s = rw e
      go Idle false e s = absurd (false≢true (sym s))
      go (Waiting w) none e s = refl
      go (Routed o) none e s = refl
      go Spilling none e s = refl

  pub reads_still : (table : List ℕ) → part1 M table t ≡ t
  unfolding part1
  reads_still table = each_none (addresses M table) t 11 (reads_nothing table) 0 11 (omega arith)

abbrev pub stirs_at : List ℕ → ℕ → Bool
stirs_at state i = stirs (mode_at (router_of state) i) (empty (store_at (router_of state) i))

module _ (state : List ℕ) (e : any (stirs_at state) 0 11 ≡ false) where
  pub none_stirs : (i : ℕ) → i < 11 → stirs_at state i ≡ false
  none_stirs i h = none_at (stirs_at state) 0 11 i e (omega arith) (omega (arith, h))

  pub none_waits : (o : ℕ) (high : Bool) (i : ℕ) → waits_for o high (mode_at (router_of state) i) ≡ false
  none_waits o high i = go (dec_lt i 11)
    where
      go : Dec (i < 11) → waits_for o high (mode_at (router_of state) i) ≡ false
      go (yes h) = not_waiting o high _ (mode_at (router_of state) i) (none_stirs i h)
      go (no d) = rw (le-ltb i 11 (omega (arith, d)))
