-- From what calls can leave, a run over rings is the run over their lists, and a run of many rounds is runs of one.
-- Assumes nothing.
use mathlib.Core.Path.{◌≡◌, refl, sym, ap, ap₂, ◌∙◌}
use mathlib.Core.Bool.{Bool, true, false}
use mathlib.Core.List.{List}
use Prim.Native.Nat.{ℕ, suc, ◌+◌, ◌/◌, ◌≤◌, ◌<◌}
use native.Mathlib.Omega.{arith}
use borrow.Author.Tests.{le-ltb}
use lib.ListN.{length}
use Rattle.vocabulary.specs.Choice.{pick}
use Rattle.router_ports.specs.Places.{Machine}
use Rattle.router_ports.proofs.StateLaws.{Sound}
use Rattle.router_rounds.specs.Acts.{Tally}
use Rattle.router_rounds.specs.Rounds.{begun, round, rounds}
use Rattle.router_rounds.specs.Exact.{exact}
use Rattle.router_rounds.specs.Model.{Model, model}
use Rattle.router.specs.Refusals.{run_refusal}
use Rattle.router.specs.Calls.{Run, told, runs}
use Rattle.router.specs.Reached.{Reached, run}
use Rattle.router.proofs.ReachedProof.{reached_keeps, never_spoiled, mark_is_exact}
use Rattle.router_rounds.proofs.DeedLaws.{Counted, Level}
use Rattle.router_rings.specs.Tied.{lists_of, Tied, RingsAreLists}
use Rattle.router_rings.specs.OneByOne.{added, OneByOne, RunsOneByOne}
use Rattle.router_rounds.proofs.WalkLaws.{rounds_level}
use Rattle.router_rings.proofs.RingProof.{Lists}
use Rattle.router_rings.proofs.RunProof.{shows, deeds}
use Rattle.router_rings.proofs.KeptLaws.{Keeps, Self, begun_anew}

-- a state that calls can leave is sound, with an area as long as it is
pub reached_sound : (x : Machine) → Reached x → Sound (length x.area) x
reached_sound x r =
    let sound = (reached_keeps r).sound in
    record { shape = sound.shape; agree = sound.agree; fits = sound.fits; size = refl }

-- tied routers are still tied after a run, with the same counts
pub tied_run : (n : ℕ) (x : Machine) (y : Model) → Lists n x y → (table : List ℕ) (limit : ℕ) →
    Level (Lists n) (record { rounds = 0; moved = 0; errors = 0 })
    (rounds exact table limit (begun x)) (rounds (model (n / 22)) table limit (begun y))
unfolding begun
tied_run n x y lists table limit =
    rounds_level exact (model (n / 22)) (Lists n) table (shows n table) (deeds n table) _ limit (begun x) (begun y)
    (record { now = lists; rounds = refl; moved = refl; errors = refl })

pub rings_are_lists : RingsAreLists
rings_are_lists x r table limit =
    let tied : Tied x (lists_of x) = record { modes = λ i. refl; outputs = λ o. refl; held = λ k. refl } in
    let level = tied_run (length x.area) x (lists_of x) (record { sound = reached_sound x r; tied = tied }) table limit in
    record {
      now = level.now.tied;
      rounds = omega (arith, level.rounds);
      moved = omega (arith, level.moved);
      errors = omega (arith, level.errors);
    }

-- a run that is not refused

accepted : (x : Machine) → Reached x → (limit : ℕ) → limit ≤ 10000 → run_refusal x limit ≡ 0
accepted x r limit h =
    let good = never_spoiled x r in
    rw (good.ports, good.area, good.stores, le-ltb 10000 limit h)

ran : (x : Machine) → Reached x → (table : List ℕ) (limit : ℕ) → limit ≤ 10000 →
    runs x table limit ≡ told (rounds exact table limit (begun x))
unfolding runs
ran x r table limit h = rw (accepted x r limit h)

one_round : (table : List ℕ) (t : Tally Machine) → rounds exact table 1 t ≡ round exact table t
unfolding rounds
one_round table t = go (round exact table t).changed
  where
    go : (b : Bool) → pick b (round exact table t) (round exact table t) ≡ round exact table t
    go true = refl
    go false = refl

nothing_asked : (table : List ℕ) → Keeps exact (λ (x : Machine). Unit {0}) table
nothing_asked table =
    record {
      empties = λ x i p s e. tt;
      strays = λ x i p s e. tt;
      waits = λ x i d p s e. tt;
      grants = λ x o i p t. tt;
      moves = λ x i o p m. tt;
      closes = λ x i o p m. tt;
      spills = λ x i p s e. tt;
      rests = λ x i p s e. tt;
    }

abbrev counted : Counted → Machine → Tally Machine → Run
counted c now u =
    record {
      refusal = 0;
      now = now;
      rounds = c.rounds + u.rounds;
      moved = c.moved + u.moved;
      errors = c.errors + u.errors;
    }

same_told : (table : List ℕ) (c : Counted) (t u : Tally Machine) →
    Level (Self exact (λ (x : Machine). Unit {0}) table) c t u → told t ≡ counted c u.now u
unfolding told
same_told table c t u l = rw (l.now.same, l.rounds, l.moved, l.errors)

module _ (x : Machine) (r : Reached x) (table : List ℕ) (n : ℕ) (h : n < 10000) where
  abbrev first : Tally Machine
  first = round exact table (begun x)

  one : runs x table 1 ≡ told first
  one = ran x r table 1 (omega arith) ∙ ap told (one_round table (begun x))

  more : (b : Bool) → first.changed ≡ b → rounds exact table (n + 1) (begun x) ≡ pick b (rounds exact table n first) first
  unfolding rounds
  more b e =
      let next : n + 1 ≡ suc n = omega arith in
      ap (λ (m : ℕ). rounds exact table m (begun x)) next ∙ rw e

  now_told : (t : Tally Machine) → (told t).now ≡ t.now
  unfolding told
  now_told t = refl

  start : (begun x).now ≡ x
  unfolding begun
  start = refl

  left : (runs x table 1).now ≡ first.now
  left = ap (λ (a : Run). a.now) one ∙ now_told first

  reached : Reached (begun x).now
  unfolding begun
  reached = r

  next : Reached first.now
  next = rw (← left) (run table 1 r)

  says_off : first.changed ≡ false → (runs x table 1).now ≡ x
  says_off e = left ∙ (mark_is_exact table (begun x) reached).off e ∙ start

  says_on : first.changed ≡ true → (runs x table 1).now ≡ x → ⊥
  says_on e same = (mark_is_exact table (begun x) reached).on e (sym left ∙ same ∙ sym start)

  all : runs x table (n + 1) ≡ told (rounds exact table (n + 1) (begun x))
  all = ran x r table (n + 1) (omega arith)

  ended : first.changed ≡ false → runs x table (n + 1) ≡ runs x table 1
  ended e = all ∙ ap told (more false e) ∙ sym one

  summed : (a b : Tally Machine) → added (told a) (told b)
      ≡ counted (record { rounds = a.rounds; moved = a.moved; errors = a.errors }) b.now b
  unfolding added told
  summed a b = refl

  continued : first.changed ≡ true → runs x table (n + 1) ≡ added (runs x table 1) (runs (runs x table 1).now table n)
  continued e =
      let rest = rounds exact table n (begun first.now) in
      let anew = begun_anew exact (λ (z : Machine). Unit {0}) table (nothing_asked table) n first tt in
      let then : runs (runs x table 1).now table n ≡ told rest =
      ap (λ (z : Machine). runs z table n) left ∙ ran first.now next table n (omega arith) in
      all ∙ ap told (more true e) ∙ same_told table _ (rounds exact table n first) rest anew ∙ sym (summed first rest)
      ∙ ap₂ added (sym one) (sym then)

  pub by_one : OneByOne x table n
  by_one =
      record {
        stops = λ same. go_stop first.changed refl same;
        goes_on = λ other. go_on first.changed refl other;
      }
    where
      go_stop : (b : Bool) → first.changed ≡ b → (runs x table 1).now ≡ x → runs x table (n + 1) ≡ runs x table 1
      go_stop true e same = absurd (says_on e same)
      go_stop false e same = ended e

      go_on : (b : Bool) → first.changed ≡ b → ((runs x table 1).now ≡ x → ⊥) →
          runs x table (n + 1) ≡ added (runs x table 1) (runs (runs x table 1).now table n)
      go_on true e other = continued e
      go_on false e other = absurd (other (says_off e))

pub runs_one_by_one : RunsOneByOne
runs_one_by_one x r table n h = by_one x r table n h
