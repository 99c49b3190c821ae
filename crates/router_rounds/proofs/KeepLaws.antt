-- A property of the ports that each thing that can happen to them keeps is kept by a run of any number of rounds.
-- Assumes nothing.
use Rattle.std.specs.Prelude.{Option, None, Some}
use mathlib.Core.Path.{◌≡◌, refl, sym, ap, ◌∙◌}
use mathlib.Core.Bool.{Bool, true, false}
use mathlib.Core.List.{List, [], ◌∷◌}
use Prim.Native.Nat.{ℕ, zero, suc, ◌+◌, ◌≤◌, ◌<◌}
use native.Mathlib.Omega.{arith}
use Rattle.vocabulary.specs.Choice.{pick}
use Rattle.vocabulary.specs.NChars.{is_end}
use Rattle.router_table.specs.Headings.{heading}
use Rattle.router_table.specs.declared.Direction.{Direction}
use Rattle.router_table.specs.declared.Heading.{Heading}
use Rattle.router_table.specs.declared.Heading.TheVariants.{End, Nowhere, Ports}
use Rattle.router_ports.specs.Each.{each}
use Rattle.router_ports.specs.Ports.{input_store, output_store}
use Rattle.router_ports.specs.declared.Mode.{Mode}
use Rattle.router_ports.specs.declared.Mode.TheVariants.{Idle, Waiting, Routed, Spilling}
use Rattle.router_rounds.specs.Acts.{Acts, Tally, changed_to, count_moved, count_error, count_round}
use Rattle.router_rounds.specs.Addresses.{waits, follows, reads, if_idle, addresses, part1}
use Rattle.router_rounds.specs.Grants.{Candidate, is_free, waits_for, fits, first_that, candidates}
use Rattle.router_rounds.specs.Grants.{chosen, granted, grants_to, grants, part2}
use Rattle.router_rounds.specs.Moves.{frees, carries, moves, moves_one, spills, spills_one, if_sending, sends, part3}
use Rattle.router_rounds.specs.Rounds.{round, rounds}

abbrev pub wish : Direction → Mode
wish d = Waiting (record { ports = d.ports; high = d.high })

-- what can happen to the ports, each with what is known where it happens
pub record Keeps {X : Type 0} (M : Acts X) (P : X → Type 0) : Type 0 where
  pub drop_mode : (x : X) (k i : ℕ) → M.mode (M.drop_front x k) i ≡ M.mode x i
  pub append_mode : (x : X) (k n i : ℕ) → M.mode (M.append x k n) i ≡ M.mode x i
  pub drops : (x : X) (i : ℕ) → i < 11 → P x → P (M.drop_front x (input_store i))
  pub appends : (x : X) (o n : ℕ) → P x → P (M.append x (output_store o) n)
  pub waits : (x : X) (i : ℕ) (table : List ℕ) (n : ℕ) (d : Direction) → i < 11 → M.mode x i ≡ Idle →
      heading table n ≡ Ports d → P x → P (M.set_mode x i (wish d))
  pub strays : (x : X) (i : ℕ) → i < 11 → M.mode x i ≡ Idle → P x → P (M.set_mode x i Spilling)
  pub takes : (x : X) (o i : ℕ) (high : Bool) → o < 11 → is_free (M.output x o).owner ≡ true →
      waits_for o high (M.mode x i) ≡ true → P x →
      P (M.set_mode (M.set_output x o (record { owner = Some i; last = i })) i (Routed o))
  pub frees : (x : X) (i o : ℕ) → i < 11 → M.mode x i ≡ Routed o → P x →
      P (M.set_mode (M.set_output x o (record { owner = None; last = (M.output x o).last })) i Idle)
  pub rests : (x : X) (i : ℕ) → i < 11 → M.mode x i ≡ Spilling → P x → P (M.set_mode x i Idle)

-- in every state of the range

module _ {S : Type 0} (Q : S → Type 0) (bound : ℕ) (f : S → ℕ → S) (one : (s : S) (i : ℕ) → i < bound → Q s → Q (f s i)) where
  pub each_keeps : (from count : ℕ) (s : S) → from + count ≤ bound → Q s → Q (each f from count s)
  unfolding each
  each_keeps from zero s h q = q
  each_keeps from (suc count) s h q =
      each_keeps (from + 1) count (f s from) (omega arith) (one s from (omega arith) q)

module _ {X : Type 0} (P : X → Type 0) where
  changes : (t : Tally X) (x : X) → P x → P (changed_to t x).now
  unfolding changed_to
  changes t x p = p

  either : (b : Bool) (t u : Tally X) → P t.now → P u.now → P (pick b t u).now
  either true t u p q = p
  either false t u p q = q

  either_now : (b : Bool) (x y : X) → (b ≡ true → P x) → P y → P (pick b x y)
  either_now true x y p q = p refl
  either_now false x y p q = q

-- a choice was made because a candidate fits
pub record Fitting (fit : Candidate → Bool) (i : ℕ) : Type 0 where
  pub candidate : Candidate
  pub input : candidate.input ≡ i
  pub fits : fit candidate ≡ true

pub first_fits : (fit : Candidate → Bool) (cs : List Candidate) (i : ℕ) → first_that fit cs ≡ Some i → Fitting fit i
unfolding first_that
first_fits fit [] i h = let z : ◌≡◌ {A = ℕ} 0 1 = cc in absurd (omega arith)
first_fits fit (c ∷ cs) i h = go (fit c) refl (first_fits fit cs i) h
  where
    go : (b : Bool) → fit c ≡ b → (first_that fit cs ≡ Some i → Fitting fit i) →
        pick b (Some c.input) (first_that fit cs) ≡ Some i → Fitting fit i
    go true e rest g = record { candidate = c; input = cc; fits = e }
    go false e rest g = rest g

module _ {X : Type 0} (M : Acts X) (P : X → Type 0) (keep : Keeps M P) (table : List ℕ) where
  abbrev pub Q : Tally X → Type 0
  Q t = P t.now

  pub keeps_addresses : (t : Tally X) (i : ℕ) → i < 11 → Q t → Q (addresses M table t i)
  unfolding addresses reads waits count_error
  keeps_addresses t i h p = go (M.mode t.now i) refl
    where
      follow : M.mode t.now i ≡ Idle → (n : ℕ) (g : Heading) → heading table n ≡ g → Q (follows M t i g)
      follow e n End w = changes P t _ (keep.drops t.now i h p)
      follow e n Nowhere w = changes P (count_error t) _ (keep.strays t.now i h e p)
      follow e n (Ports d) w =
          let waiting = keep.waits t.now i table n d h e w p in
          changes P t _ (either_now P d.delete _ _ (λ b. keep.drops _ i h waiting) waiting)

      go : (m : Mode) → M.mode t.now i ≡ m → Q (if_idle M table t i m)
      go Idle e =
          either P (M.is_empty t.now (input_store i)) t _ p
          (follow e (M.front t.now (input_store i)) (heading table (M.front t.now (input_store i))) refl)
      go (Waiting w) e = p
      go (Routed o) e = p
      go Spilling e = p

  pub keeps_grants : (t : Tally X) (o : ℕ) → o < 11 → Q t → Q (grants M t o)
  unfolding grants granted
  keeps_grants t o h p = go (is_free (M.output t.now o).owner) refl
    where
      take : is_free (M.output t.now o).owner ≡ true → (c : Option ℕ) → chosen M t.now o ≡ c → Q (grants_to M t o c)
      take e None w = p
      take e (Some i) w =
          let f = first_fits (fits M t.now o) (candidates (M.output t.now o).last) i w in
          let waiting : waits_for o f.candidate.high (M.mode t.now i) ≡ true =
          ap (λ (j : ℕ). waits_for o f.candidate.high (M.mode t.now j)) (sym f.input) ∙ f.fits in
          changes P t _ (keep.takes t.now o i f.candidate.high h e waiting p)

      go : (b : Bool) → is_free (M.output t.now o).owner ≡ b → Q (pick b (grants_to M t o (chosen M t.now o)) t)
      go true e = take e (chosen M t.now o) refl
      go false e = p

  pub keeps_sends : (t : Tally X) (i : ℕ) → i < 11 → Q t → Q (sends M t i)
  unfolding sends moves_one moves carries frees spills_one spills count_moved
  keeps_sends t i h p = go (M.mode t.now i) refl
    where
      move : (o n : ℕ) → M.mode t.now i ≡ Routed o → Q (moves M t i o n)
      move o n e =
          let put = keep.appends t.now o n p in
          let moved = keep.drops _ i h put in
          let still : M.mode (M.drop_front (M.append t.now (output_store o) n) (input_store i)) i ≡ Routed o =
          keep.drop_mode _ (input_store i) i ∙ keep.append_mode t.now (output_store o) n i ∙ e in
          changes P (count_moved t) _ (either_now P (is_end n) _ _ (λ b. keep.frees _ i o h still moved) moved)

      spill : (n : ℕ) → M.mode t.now i ≡ Spilling → P (spills M t.now i n)
      spill n e =
          let spilt = keep.drops t.now i h p in
          let still = keep.drop_mode t.now (input_store i) i ∙ e in
          either_now P (is_end n) _ _ (λ b. keep.rests _ i h still spilt) spilt

      go : (m : Mode) → M.mode t.now i ≡ m → Q (if_sending M t i m)
      go Idle e = p
      go (Waiting w) e = p
      go (Routed o) e =
          either P (M.is_full t.now (output_store o)) t _ p
          (either P (M.is_empty t.now (input_store i)) t _ p (move o (M.front t.now (input_store i)) e))
      go Spilling e =
          either P (M.is_empty t.now (input_store i)) t _ p
          (changes P t _ (spill (M.front t.now (input_store i)) e))

  pub begins_kept : (t : Tally X) → Q t → Q (count_round t)
  unfolding count_round
  begins_kept t p = p

  pub round_keeps : (t : Tally X) → Q t → Q (round M table t)
  unfolding round part1 part2 part3
  round_keeps t p =
      each_keeps Q 11 (sends M) keeps_sends 0 11 _ (omega arith)
      (each_keeps Q 11 (grants M) keeps_grants 0 11 _ (omega arith)
      (each_keeps Q 11 (addresses M table) keeps_addresses 0 11 _ (omega arith) (begins_kept t p)))

  pub rounds_keep : (limit : ℕ) (t : Tally X) → Q t → Q (rounds M table limit t)
  unfolding rounds
  rounds_keep zero t p = p
  rounds_keep (suc limit) t p =
      either P (round M table t).changed _ _ (rounds_keep limit (round M table t) (round_keeps t p)) (round_keeps t p)
