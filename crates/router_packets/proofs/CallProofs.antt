-- Every call keeps a journal: a put adds to what waits at an input, a take removes from what waits at an output, a run is rounds.
-- Assumes nothing.
use mathlib.Core.Path.{◌≡◌, refl, sym, ap, subst, ◌∙◌}
use mathlib.Core.Bool.{Bool, true, false}
use mathlib.Core.List.Memᴰ
use mathlib.Core.List.{List, [], ◌∷◌, ◌++◌, append_assoc}
use Prim.Native.Nat.{ℕ, ◌/◌, ◌<◌}
use native.Mathlib.Decide.{ℕ_discrete}
use native.Mathlib.Omega.{arith}
use lib.Dec.{eqb}
use lib.ListN.{drop}
use borrow.Author.Tests.{eq-eqb, ne_eqb, eqb-true, ltb-false}
use Rattle.vocabulary.specs.Choice.{pick}
use Rattle.vocabulary.specs.NChars.{read_as, above_eep}
use Rattle.vocabulary.specs.Refusals.{PORT, CHAR, FULL, EMPTY, Test, test, first_of}
use Rattle.vocabulary.proofs.RefusalLaws.{passed, passed_later}
use Rattle.store.specs.Ring.{waiting}
use Rattle.store.specs.Changes.{dropped}
use Rattle.router_ports.specs.Ports.{input_store, output_store, store_at}
use Rattle.router_ports.specs.Places.{Machine, size_in, places_at, empty_at, full_at, front_at, with_behind, without_front}
use Rattle.router_ports.specs.declared.Mode.{Mode}
use Rattle.router_ports.proofs.StateLaws.{drop_sound, append_sound}
use Rattle.router_rounds.specs.Rounds.{begun, rounds}
use Rattle.router_rounds.specs.Exact.{exact}
use Rattle.router_rounds.specs.Model.{Model, model, at}
use Rattle.router.specs.Refusals.{no_port, put_refusal, take_refusal, run_refusal}
use Rattle.router.specs.Calls.{puts, takes, took_one, told, runs}
use Rattle.router.proofs.RefusalLaws.{lent_accepts}
use Rattle.router_rings.proofs.RingProof.{Lists, front_first, drop_tied, append_tied}
use Rattle.router_packets.specs.Ledger.{Call, put, take, run, Ledger, books_put, books_take, books_run, books}
use Rattle.router_packets.specs.Journal.{Part, put_to, sent_to, by_owner}
use Rattle.router_packets.specs.Since.{Clear, Stage, since, before, Since}
use Rattle.router_packets.proofs.JournalLaws.{behind_all}
use Rattle.router_packets.proofs.ProgressLaws.{put_progress, later_progress, later_journey}
use Rattle.router_packets.proofs.RoundProof.{run_told}

-- what an accepted call passed

record PutPassed (x : Machine) (port c : ℕ) : Type 0 where
  below : port < 11
  small : above_eep c ≡ false
  room : full_at x (input_store port) ≡ false

put_passed : (x : Machine) (port c : ℕ) → put_refusal x port c ≡ 0 → PutPassed x port c
put_passed x port c e =
    let full : List Test = test FULL (full_at x (input_store port)) ∷ [] in
    let char : List Test = test CHAR (above_eep c) ∷ full in
    let first = (lent_accepts x (first_of (test PORT (no_port port) ∷ char)) e).later in
    let then = passed_later PORT (no_port port) char first in
    let within = ltb-false 10 port (passed PORT (no_port port) char first) in
    record {
      below = omega (arith, within);
      small = passed CHAR (above_eep c) full then;
      room = passed FULL (full_at x (input_store port)) [] (passed_later CHAR (above_eep c) full then);
    }

record TakePassed (x : Machine) (port : ℕ) : Type 0 where
  below : port < 11
  some : empty_at x (output_store port) ≡ false

take_passed : (x : Machine) (port : ℕ) → take_refusal x port ≡ 0 → TakePassed x port
take_passed x port e =
    let some : List Test = test EMPTY (empty_at x (output_store port)) ∷ [] in
    let first = (lent_accepts x (first_of (test PORT (no_port port) ∷ some)) e).later in
    let within = ltb-false 10 port (passed PORT (no_port port) some first) in
    record {
      below = omega (arith, within);
      some = passed EMPTY (empty_at x (output_store port)) [] (passed_later PORT (no_port port) some first);
    }

-- where a ledger stands: its router, the lists that it stands for, and a journal
pub record Kept (was : Model) (n : ℕ) (l : Ledger) : Type 0 where
  pub lists : Model
  pub tied : Lists n l.now lists
  pub since : Since was l lists

-- an N-Char is read as it is
unread : {c : ℕ} → above_eep c ≡ false → read_as c ≡ c
unread small = rw small

-- a journal is about what was put, taken and lent
abbrev moved_on : Ledger → Machine → Ledger
moved_on l x = record { now = x; put = l.put; taken = l.taken; lent = l.lent }

same_books : (was : Model) (l : Ledger) (x : Machine) (y : Model) → Since was l y → Since was (moved_on l x) y
same_books was l x y s =
    record {
      finished = s.finished;
      parts = s.parts;
      tails = s.tails;
      journeys = s.journeys;
      inputs = s.inputs;
      stages = s.stages;
      outputs = s.outputs;
    }

module _ (was : Model) (n : ℕ) (l : Ledger) (kept : Kept was n l) where
  abbrev y : Model
  y = kept.lists

  abbrev s : Since was l y
  s = kept.since

  abbrev x : Machine
  x = l.now

  -- put

  module _ (port c : ℕ) (h : port < 11) where
    abbrev put_books : Machine → Ledger
    put_books z = record { now = z; put = at l.put port (l.put port ++ c ∷ []); taken = l.taken; lent = l.lent }

    abbrev longer : Model
    longer = (model (n / 22)).append y (input_store port) c

    more_stage : (m : Mode) → Stage was l.lent (y.held (input_store port)) (s.parts port) (put_to port s.finished) (s.tails port) port m →
        Stage was l.lent (y.held (input_store port) ++ c ∷ []) (s.parts port) (put_to port s.finished) (s.tails port) port m
    more_stage m (since clean p) = since clean (put_progress l.lent (s.parts port) (y.held (input_store port)) c m p)
    more_stage m (before busy none no_header no_cargo away) = before busy none no_header no_cargo away

    put_since : (z : Machine) → Since was (put_books z) longer
    put_since z =
        record {
          finished = s.finished;
          parts = s.parts;
          tails = s.tails;
          journeys = s.journeys;
          inputs = λ i b. line i b (ℕ_discrete i port);
          stages = λ i b. stage i b (ℕ_discrete i port);
          outputs = λ o b clear. rw (ne_eqb (output_store o) port (λ e. omega arith)) (s.outputs o b clear);
        }
      where
        line : (i : ℕ) → i < 11 → Dec (i ≡ port) →
            was.held (input_store i) ++ at l.put port (l.put port ++ c ∷ []) i
            ≡ s.tails i ++ (put_to i s.finished ++ ((s.parts i).header ++ ((s.parts i).cargo
            ++ at y.held port (y.held port ++ c ∷ []) i)))
        line i b (yes e) =
            rw (e, eq-eqb port port refl)
            (sym (append_assoc (was.held (input_store port)) (l.put port) (c ∷ []))
            ∙ ap (λ (ns : List ℕ). ns ++ c ∷ []) (s.inputs port h)
            ∙ behind_all (put_to port s.finished) (s.tails port) (s.parts port).header (s.parts port).cargo (y.held port) c)
        line i b (no d) = rw (ne_eqb i port d) (s.inputs i b)

        stage : (i : ℕ) → i < 11 → Dec (i ≡ port) →
            Stage was l.lent (at y.held port (y.held port ++ c ∷ []) i) (s.parts i) (put_to i s.finished) (s.tails i) i (y.modes i)
        stage i b (yes e) = rw (e, eq-eqb port port refl) (more_stage (y.modes port) (s.stages port h))
        stage i b (no d) = rw (ne_eqb i port d) (s.stages i b)

  pub put_kept : (port c : ℕ) → Kept was n (books_put l port c (puts x port c))
  unfolding puts books_put
  put_kept port c = go (eqb (put_refusal x port c) 0) refl
    where
      go : (b : Bool) → eqb (put_refusal x port c) 0 ≡ b →
          Kept was n (books_put l port c (pick b (record { refusal = 0; now = with_behind x (input_store port) c })
          (record { refusal = put_refusal x port c; now = x })))
      go true e =
          let ok = put_passed x port c (eqb-true (put_refusal x port c) 0 e) in
          let below = ok.below in
          record {
            lists = longer port c below;
            tied =
                record {
                  sound = append_sound n x kept.tied.sound (input_store port) c;
                  tied = append_tied n x y kept.tied (input_store port) (omega (arith, below)) c (unread ok.small) ok.room;
                };
            since = put_since port c below (with_behind x (input_store port) c);
          }
      go false e =
          rw e
          (record { lists = y; tied = kept.tied; since = same_books was l x y s })

  -- take

  module _ (port : ℕ) (h : port < 11) (some : empty_at x (output_store port) ≡ false) where
    abbrev c : ℕ
    c = front_at x (output_store port)

    abbrev rest : List ℕ
    rest = waiting (places_at x.area (output_store port)) (dropped (size_in x.area) (store_at x.router (output_store port)) 1)

    held : y.held (output_store port) ≡ c ∷ rest
    held = front_first n x y kept.tied (output_store port) (omega arith) some

    abbrev take_books : Machine → Ledger
    take_books z = record { now = z; put = l.put; taken = at l.taken port (l.taken port ++ c ∷ []); lent = l.lent }

    abbrev shorter : Model
    shorter = (model (n / 22)).drop_front y (output_store port)

    take_since : (z : Machine) → Since was (take_books z) shorter
    take_since z =
        record {
          finished = s.finished;
          parts = s.parts;
          tails = s.tails;
          journeys = s.journeys;
          inputs = λ i b. rw (ne_eqb i (output_store port) (λ e. omega arith)) (s.inputs i b);
          stages = λ i b. rw (ne_eqb i (output_store port) (λ e. omega arith)) (s.stages i b);
          outputs = λ o b clear. out o b clear (ℕ_discrete o port);
        }
      where
        out : (o : ℕ) → o < 11 → Clear was o → Dec (o ≡ port) →
            at l.taken port (l.taken port ++ c ∷ []) o ++ at y.held (output_store port) (drop 1 (y.held (output_store port))) (output_store o)
            ≡ was.held (output_store o) ++ (sent_to o s.finished ++ by_owner s.parts (y.outputs o).owner)
        out o b clear (yes e) =
            rw (e, eq-eqb port port refl, eq-eqb (output_store port) (output_store port) refl, held)
            (append_assoc (l.taken port) (c ∷ []) rest ∙ ap (λ (ns : List ℕ). l.taken port ++ ns) (sym held)
            ∙ s.outputs port h (subst (Clear was) e clear))
        out o b clear (no d) =
            rw (ne_eqb o port d, ne_eqb (output_store o) (output_store port) (λ e. d (omega arith))) (s.outputs o b clear)

  pub take_kept : (port : ℕ) → Kept was n (books_take l port (takes x port))
  unfolding takes took_one books_take
  take_kept port = go (eqb (take_refusal x port) 0) refl
    where
      go : (b : Bool) → eqb (take_refusal x port) 0 ≡ b →
          Kept was n (books_take l port (pick b
          (record { refusal = 0; now = without_front x (output_store port); taken = front_at x (output_store port) })
          (record { refusal = take_refusal x port; now = x; taken = 0 })))
      go true e =
          let ok = take_passed x port (eqb-true (take_refusal x port) 0 e) in
          record {
            lists = shorter port ok.below ok.some;
            tied =
                record {
                  sound = drop_sound n x kept.tied.sound (output_store port);
                  tied = drop_tied n x y kept.tied (output_store port) (omega (arith, ok.below)) ok.some;
                };
            since = take_since port ok.below ok.some (without_front x (output_store port));
          }
      go false e =
          rw e
          (record { lists = y; tied = kept.tied; since = same_books was l x y s })

  -- run

  abbrev lent_too : List ℕ → Ledger
  lent_too table = record { now = x; put = l.put; taken = l.taken; lent = table ∷ l.lent }

  later_stage : (table held : List ℕ) (p : Part) (past tail : List ℕ) (i : ℕ) (m : Mode) →
      Stage was l.lent held p past tail i m → Stage was (table ∷ l.lent) held p past tail i m
  later_stage table held p past tail i m (since clean q) = since clean (later_progress l.lent table held p m q)
  later_stage table held p past tail i m (before busy none no_header no_cargo away) = before busy none no_header no_cargo away

  lent_since : (table : List ℕ) → Since was (lent_too table) y
  lent_since table =
      record {
        finished = s.finished;
        parts = s.parts;
        tails = s.tails;
        journeys = λ p m. later_journey l.lent table p (s.journeys p m);
        inputs = s.inputs;
        stages = λ i b. later_stage table _ _ _ _ i _ (s.stages i b);
        outputs = s.outputs;
      }

  pub run_kept : (table : List ℕ) (limit : ℕ) → Kept was n (books_run l table (runs x table limit))
  unfolding runs told books_run
  run_kept table limit = go (eqb (run_refusal x limit) 0) refl
    where
      go : (b : Bool) → eqb (run_refusal x limit) 0 ≡ b →
          Kept was n (books_run l table (pick b (told (rounds exact table limit (begun x)))
          (record { refusal = run_refusal x limit; now = x; rounds = 0; moved = 0; errors = 0 })))
      go true e =
          let ran = run_told was (lent_too table) n table (Memᴰ.head refl) limit x y
          (record { lists = kept.tied; since = lent_since table }) in
          record {
            lists = (rounds (model (n / 22)) table limit (begun y)).now;
            tied = ran.lists;
            since = same_books was (lent_too table) (rounds exact table limit (begun x)).now _ ran.since;
          }
      go false e =
          rw e
          (record { lists = y; tied = kept.tied; since = same_books was l x y s })

pub call_kept : (was : Model) (n : ℕ) (l : Ledger) (c : Call) → Kept was n l → Kept was n (books l c)
call_kept was n l (put port m) kept = put_kept was n l kept port m
call_kept was n l (take port) kept = take_kept was n l kept port
call_kept was n l (run table limit) kept = run_kept was n l kept table limit
