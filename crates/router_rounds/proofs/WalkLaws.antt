-- Routers that show the same and stand alike after whatever happens go on alike through a run of any number of rounds.
-- Assumes nothing.
use Rattle.std.specs.Prelude.{Option, None, Some}
use mathlib.Core.Path.{◌≡◌, refl, sym, ap, subst, ◌∙◌}
use mathlib.Core.Bool.{Bool, true, false}
use mathlib.Core.List.{List, [], ◌∷◌}
use Prim.Native.Nat.{ℕ, zero, suc, ◌+◌, ◌≤◌, ◌<◌}
use native.Mathlib.Omega.{arith}
use Rattle.vocabulary.specs.Choice.{pick}
use Rattle.vocabulary.specs.NChars.{is_end}
use Rattle.router_table.specs.Headings.{heading}
use Rattle.router_table.specs.declared.Heading.{Heading}
use Rattle.router_table.specs.declared.Heading.TheVariants.{End, Nowhere, Ports}
use Rattle.router_ports.specs.Each.{each}
use Rattle.router_ports.specs.Ports.{output_store}
use Rattle.router_ports.specs.declared.Mode.{Mode}
use Rattle.router_ports.specs.declared.Mode.TheVariants.{Idle, Waiting, Routed, Spilling}
use Rattle.router_ports.specs.declared.Output.{Output}
use Rattle.router_rounds.specs.Acts.{Acts, Tally, changed_to, count_moved, count_error, count_round}
use Rattle.router_rounds.specs.Addresses.{follows, reads, if_idle, addresses, part1}
use Rattle.router_rounds.specs.Grants.{Candidate, is_free, waits_for, fits, first_that, candidates}
use Rattle.router_rounds.specs.Grants.{chosen, granted, grants_to, grants, part2}
use Rattle.router_rounds.specs.Moves.{moves, moves_one, spills, spills_one, if_sending, sends, part3}
use Rattle.router_rounds.specs.Rounds.{round, rounds}
use Rattle.router_rounds.proofs.KeepLaws.{first_fits}
use Rattle.router_rounds.proofs.DeedLaws.{Counted, Level}
use Rattle.router_rounds.proofs.DeedLaws.{front_in, Stands, Shows, Deeds}

-- within a round the marks are the same too
pub record Alike {X Y : Type 0} (R : X → Y → Type 0) (c : Counted) (t : Tally X) (u : Tally Y) : Type 0 where
  pub level : Level R c t u
  pub changed : t.changed ≡ u.changed

-- the same test, and what follows from it on either side
same_test : {A : Type 0} {B : Type 0} (S : A → B → Type 0) (a b : Bool) → a ≡ b → (p q : A) (r s : B) →
    (a ≡ true → S p r) → (a ≡ false → S q s) → S (pick a p q) (pick b r s)
same_test S true b e p q r s on off = rw (← e) (on refl)
same_test S false b e p q r s on off = rw (← e) (off refl)

module _ {X Y : Type 0} (R : X → Y → Type 0) (c : Counted) where
  abbrev Q : Tally X → Tally Y → Type 0
  Q = Alike R c

  begins : (t : Tally X) (u : Tally Y) → Level R c t u → Q (count_round t) (count_round u)
  unfolding count_round
  begins t u l =
      record {
        level =
            record {
              now = l.now;
              rounds = omega (arith, l.rounds);
              moved = l.moved;
              errors = l.errors;
            };
        changed = refl;
      }

  changes : (t : Tally X) (u : Tally Y) (x : X) (y : Y) → Q t u → R x y → Q (changed_to t x) (changed_to u y)
  unfolding changed_to
  changes t u x y q r =
      let l = q.level in
      record {
        level = record { now = r; rounds = l.rounds; moved = l.moved; errors = l.errors };
        changed = refl;
      }

  errs : (t : Tally X) (u : Tally Y) → Q t u → Q (count_error t) (count_error u)
  unfolding count_error
  errs t u q =
      let l = q.level in
      record {
        level =
            record {
              now = l.now;
              rounds = l.rounds;
              moved = l.moved;
              errors = omega (arith, l.errors);
            };
        changed = q.changed;
      }

  counts : (t : Tally X) (u : Tally Y) → Q t u → Q (count_moved t) (count_moved u)
  unfolding count_moved
  counts t u q =
      let l = q.level in
      record {
        level =
            record {
              now = l.now;
              rounds = l.rounds;
              moved = omega (arith, l.moved);
              errors = l.errors;
            };
        changed = q.changed;
      }

  each_alike : (f : Tally X → ℕ → Tally X) (g : Tally Y → ℕ → Tally Y) →
      ((t : Tally X) (u : Tally Y) (i : ℕ) → i < 11 → Q t u → Q (f t i) (g u i)) →
      (from count : ℕ) (t : Tally X) (u : Tally Y) → from + count ≤ 11 → Q t u → Q (each f from count t) (each g from count u)
  unfolding each
  each_alike f g one from zero t u h q = q
  each_alike f g one from (suc count) t u h q =
      each_alike f g one (from + 1) count (f t from) (g u from) (omega arith) (one t u from (omega arith) q)

same_first : (f g : Candidate → Bool) → ((c : Candidate) → f c ≡ g c) → (cs : List Candidate) → first_that f cs ≡ first_that g cs
unfolding first_that
same_first f g same [] = refl
same_first f g same (c ∷ cs) = rw (same c, same_first f g same cs)

module _ {X Y : Type 0} (M : Acts X) (N : Acts Y) (R : X → Y → Type 0) (table : List ℕ)
    (shows : Shows M N R table) (deeds : Deeds M N R table) (c : Counted) where
  follow : (t : Tally X) (u : Tally Y) (i : ℕ) → Alike R c t u → Stands M t.now i Idle →
      (g : Heading) → heading table (front_in M t.now i) ≡ g → Alike R c (follows M t i g) (follows N u i g)
  follow t u i q stands End w = changes R c t u _ _ q (deeds.empties t.now u.now i q.level.now stands w)
  follow t u i q stands Nowhere w =
      changes R c (count_error t) (count_error u) _ _ (errs R c t u q) (deeds.strays t.now u.now i q.level.now stands w)
  follow t u i q stands (Ports d) w =
      changes R c t u _ _ q (deeds.waits t.now u.now i d q.level.now stands w)

  reads_alike : (t : Tally X) (u : Tally Y) (i : ℕ) → i < 11 → M.mode t.now i ≡ Idle → Alike R c t u →
      Alike R c (reads M table t i) (reads N table u i)
  unfolding reads
  reads_alike t u i h e q =
      let r = q.level.now in
      same_test (Alike R c) _ _ (shows.is_empty t.now u.now r i h) _ _ _ _ (λ none. q)
      (λ some.
      subst (λ (n : ℕ). Alike R c (follows M t i (heading table (front_in M t.now i))) (follows N u i (heading table n)))
      (shows.front t.now u.now r i h some)
      (follow t u i q (record { port = h; mode = e; some = some }) _ refl))

  addresses_alike : (t : Tally X) (u : Tally Y) (i : ℕ) → i < 11 → Alike R c t u →
      Alike R c (addresses M table t i) (addresses N table u i)
  unfolding addresses
  addresses_alike t u i h q =
      subst (λ (m : Mode). Alike R c (if_idle M table t i (M.mode t.now i)) (if_idle N table u i m))
      (shows.mode t.now u.now q.level.now i)
      (go (M.mode t.now i) refl)
    where
      go : (m : Mode) → M.mode t.now i ≡ m → Alike R c (if_idle M table t i m) (if_idle N table u i m)
      go Idle e = reads_alike t u i h e q
      go (Waiting w) e = q
      go (Routed o) e = q
      go Spilling e = q

  same_choice : (x : X) (y : Y) → R x y → (o : ℕ) → chosen M x o ≡ chosen N y o
  same_choice x y r o =
      ap (λ (out : Output). first_that (fits M x o) (candidates out.last)) (shows.output x y r o)
      ∙ same_first (fits M x o) (fits N y o)
      (λ k. ap (waits_for o k.high) (shows.mode x y r k.input)) (candidates (N.output y o).last)

  grants_alike : (t : Tally X) (u : Tally Y) (o : ℕ) → o < 11 → Alike R c t u → Alike R c (grants M t o) (grants N u o)
  unfolding grants granted
  grants_alike t u o h q =
      same_test (Alike R c) _ _ (ap (λ (out : Output). is_free out.owner) (shows.output t.now u.now q.level.now o))
      _ _ _ _
      (λ free.
      subst (λ (k : Option ℕ). Alike R c (grants_to M t o (chosen M t.now o)) (grants_to N u o k))
      (same_choice t.now u.now q.level.now o)
      (take free (chosen M t.now o) refl))
      (λ owned. q)
    where
      take : is_free (M.output t.now o).owner ≡ true → (k : Option ℕ) → chosen M t.now o ≡ k →
          Alike R c (grants_to M t o k) (grants_to N u o k)
      take free None w = q
      take free (Some i) w =
          let f = first_fits (fits M t.now o) (candidates (M.output t.now o).last) i w in
          let waiting : waits_for o f.candidate.high (M.mode t.now i) ≡ true =
          ap (λ (j : ℕ). waits_for o f.candidate.high (M.mode t.now j)) (sym f.input) ∙ f.fits in
          changes R c t u _ _ q
          (deeds.grants t.now u.now o i q.level.now
          (record { port = h; free = free; high = f.candidate.high; wants = waiting }))

  moves_alike : (t : Tally X) (u : Tally Y) (i o : ℕ) → Alike R c t u → Stands M t.now i (Routed o) →
      M.is_full t.now (output_store o) ≡ false →
      Alike R c (moves M t i o (front_in M t.now i)) (moves N u i o (front_in M t.now i))
  unfolding moves
  moves_alike t u i o q stands room =
      changes R c (count_moved t) (count_moved u) _ _ (counts R c t u q)
      (same_test R (is_end (front_in M t.now i)) _ refl _ _ _ _
      (λ e. deeds.closes t.now u.now i o q.level.now (record { stands = stands; room = room; ends = e }))
      (λ e. deeds.moves t.now u.now i o q.level.now (record { stands = stands; room = room; ends = e })))

  moves_one_alike : (t : Tally X) (u : Tally Y) (i o : ℕ) → i < 11 → M.mode t.now i ≡ Routed o → Alike R c t u →
      Alike R c (moves_one M t i o) (moves_one N u i o)
  unfolding moves_one
  moves_one_alike t u i o h e q =
      let r = q.level.now in
      same_test (Alike R c) _ _ (shows.is_full t.now u.now r i o h e) _ _ _ _ (λ full. q)
      (λ room. same_test (Alike R c) _ _ (shows.is_empty t.now u.now r i h) _ _ _ _ (λ none. q)
      (λ some.
      subst (λ (n : ℕ). Alike R c (moves M t i o (front_in M t.now i)) (moves N u i o n))
      (shows.front t.now u.now r i h some)
      (moves_alike t u i o q (record { port = h; mode = e; some = some }) room)))

  spills_alike : (t : Tally X) (u : Tally Y) (i : ℕ) → i < 11 → M.mode t.now i ≡ Spilling → Alike R c t u →
      Alike R c (spills_one M t i) (spills_one N u i)
  unfolding spills_one spills
  spills_alike t u i h e q =
      let r = q.level.now in
      same_test (Alike R c) _ _ (shows.is_empty t.now u.now r i h) _ _ _ _ (λ none. q)
      (λ some.
      let stands : Stands M t.now i Spilling = record { port = h; mode = e; some = some } in
      changes R c t u _ _ q
      (same_test R _ _ (ap is_end (shows.front t.now u.now r i h some)) _ _ _ _
      (λ b. deeds.rests t.now u.now i r stands b)
      (λ b. deeds.spills t.now u.now i r stands b)))

  sends_alike : (t : Tally X) (u : Tally Y) (i : ℕ) → i < 11 → Alike R c t u → Alike R c (sends M t i) (sends N u i)
  unfolding sends
  sends_alike t u i h q =
      subst (λ (m : Mode). Alike R c (if_sending M t i (M.mode t.now i)) (if_sending N u i m))
      (shows.mode t.now u.now q.level.now i)
      (go (M.mode t.now i) refl)
    where
      go : (m : Mode) → M.mode t.now i ≡ m → Alike R c (if_sending M t i m) (if_sending N u i m)
      go Idle e = q
      go (Waiting w) e = q
      go (Routed o) e = moves_one_alike t u i o h e q
      go Spilling e = spills_alike t u i h e q

  pub round_alike : (t : Tally X) (u : Tally Y) → Level R c t u → Alike R c (round M table t) (round N table u)
  unfolding round part1 part2 part3
  round_alike t u l =
      each_alike R c (sends M) (sends N) sends_alike 0 11 _ _ (omega arith)
      (each_alike R c (grants M) (grants N) grants_alike 0 11 _ _ (omega arith)
      (each_alike R c (addresses M table) (addresses N table) addresses_alike 0 11 _ _ (omega arith) (begins R c t u l)))

  pub rounds_level : (limit : ℕ) (t : Tally X) (u : Tally Y) → Level R c t u →
      Level R c (rounds M table limit t) (rounds N table limit u)
  unfolding rounds
  rounds_level zero t u l = l
  rounds_level (suc limit) t u l =
      let q = round_alike t u l in
      same_test (Level R c) _ _ q.changed _ _ _ _
      (λ on. rounds_level limit (round M table t) (round N table u) q.level)
      (λ off. q.level)
