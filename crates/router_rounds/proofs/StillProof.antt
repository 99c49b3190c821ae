-- A round whose mark is off changed nothing: what is done for a port leaves everything as it was, or sets the mark.
-- Assumes nothing.
use Rattle.std.specs.Prelude.{Option, None, Some}
use mathlib.Core.Path.{◌≡◌, refl, sym, ap, ◌∙◌}
use mathlib.Core.Bool.{Bool, true, false, false≢true}
use mathlib.Core.List.{List}
use Prim.Native.Nat.{ℕ, zero, suc, ◌+◌}
use Rattle.vocabulary.specs.Choice.{pick}
use Rattle.router_table.specs.Headings.{heading}
use Rattle.router_table.specs.declared.Heading.{Heading}
use Rattle.router_table.specs.declared.Heading.TheVariants.{End, Nowhere, Ports}
use Rattle.router_ports.specs.Each.{each}
use Rattle.router_ports.specs.Ports.{input_store, output_store}
use Rattle.router_ports.specs.declared.Mode.{Mode}
use Rattle.router_ports.specs.declared.Mode.TheVariants.{Idle, Waiting, Routed, Spilling}
use Rattle.router_rounds.specs.Acts.{Acts, Tally, changed_to, count_moved, count_error, count_round}
use Rattle.router_rounds.specs.Addresses.{follows, reads, if_idle, addresses, part1}
use Rattle.router_rounds.specs.Grants.{is_free, chosen, granted, grants_to, grants, part2}
use Rattle.router_rounds.specs.Moves.{moves, moves_one, spills_one, if_sending, sends, part3}
use Rattle.router_rounds.specs.Rounds.{round}
use Rattle.router_rounds.specs.Still.{UnmarkedIsStill}

data Step {X : Type 0} (t u : Tally X) : Type 0 where
  still : u ≡ t → Step t u
  marked : u.changed ≡ true → Step t u

module _ {X : Type 0} where
  marks : (s t : Tally X) (x : X) → Step s (changed_to t x)
  unfolding changed_to
  marks s t x = marked refl

  either : (b : Bool) (t u w : Tally X) → Step t u → Step t w → Step t (pick b u w)
  either true t u w a z = a
  either false t u w a z = z

  then : (t u w : Tally X) → Step t u → Step u w → Step t w
  then t u w (still e) (still f) = still (f ∙ e)
  then t u w (marked m) (still f) = marked (ap (λ (v : Tally X). v.changed) f ∙ m)
  then t u w (still e) (marked n) = marked n
  then t u w (marked m) (marked n) = marked n

  each_steps : (f : Tally X → ℕ → Tally X) → ((t : Tally X) (i : ℕ) → Step t (f t i)) →
      (i n : ℕ) (t : Tally X) → Step t (each f i n t)
  unfolding each
  each_steps f one i zero t = still refl
  each_steps f one i (suc n) t = then t (f t i) _ (one t i) (each_steps f one (i + 1) n (f t i))

module _ {X : Type 0} (M : Acts X) where
  addresses_step : (table : List ℕ) (t : Tally X) (i : ℕ) → Step t (addresses M table t i)
  unfolding addresses reads
  addresses_step table t i = go (M.mode t.now i)
    where
      follow : (h : Heading) → Step t (follows M t i h)
      follow End = marks t t _
      follow Nowhere = marks t (count_error t) _
      follow (Ports d) = marks t t _

      go : (m : Mode) → Step t (if_idle M table t i m)
      go Idle =
          either (M.is_empty t.now (input_store i)) t t _ (still refl)
          (follow (heading table (M.front t.now (input_store i))))
      go (Waiting w) = still refl
      go (Routed o) = still refl
      go Spilling = still refl

  grants_step : (t : Tally X) (o : ℕ) → Step t (grants M t o)
  unfolding grants granted
  grants_step t o = either (is_free (M.output t.now o).owner) t _ t (go (chosen M t.now o)) (still refl)
    where
      go : (c : Option ℕ) → Step t (grants_to M t o c)
      go None = still refl
      go (Some i) = marks t t _

  sends_step : (t : Tally X) (i : ℕ) → Step t (sends M t i)
  unfolding sends moves_one moves spills_one
  sends_step t i = go (M.mode t.now i)
    where
      go : (m : Mode) → Step t (if_sending M t i m)
      go Idle = still refl
      go (Waiting w) = still refl
      go (Routed o) =
          either (M.is_full t.now (output_store o)) t t _ (still refl)
          (either (M.is_empty t.now (input_store i)) t t _ (still refl) (marks t (count_moved t) _))
      go Spilling = either (M.is_empty t.now (input_store i)) t t _ (still refl) (marks t t _)

  round_step : (table : List ℕ) (t : Tally X) → Step (count_round t) (round M table t)
  unfolding round part1 part2 part3
  round_step table t =
      then (count_round t) (part2 M (part1 M table (count_round t))) (round M table t)
      (then (count_round t) (part1 M table (count_round t)) (part2 M (part1 M table (count_round t)))
      (each_steps (addresses M table) (addresses_step table) 0 11 (count_round t))
      (each_steps (grants M) grants_step 0 11 (part1 M table (count_round t))))
      (each_steps (sends M) sends_step 0 11 (part2 M (part1 M table (count_round t))))

  pub unmarked_is_still : UnmarkedIsStill M
  unmarked_is_still table t e = go (round_step table t)
    where
      go : Step (count_round t) (round M table t) → round M table t ≡ count_round t
      go (still s) = s
      go (marked m) = absurd (false≢true (sym e ∙ m))
