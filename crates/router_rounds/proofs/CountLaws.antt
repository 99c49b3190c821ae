-- What is done for one port adds at most one to each count, so a part adds at most eleven and a round at most thirty-three.
-- Assumes nothing.
use Rattle.std.specs.Prelude.{Option, None, Some}
use mathlib.Core.Path.{◌≡◌, refl, ◌∙◌}
use mathlib.Core.Bool.{Bool, true, false}
use mathlib.Core.List.{List}
use Prim.Native.Nat.{ℕ, zero, suc, ◌+◌, ◌≤◌}
use native.Mathlib.Omega.{arith}
use Rattle.vocabulary.specs.Choice.{pick}
use Rattle.router_table.specs.Headings.{heading}
use Rattle.router_table.specs.declared.Heading.{Heading}
use Rattle.router_table.specs.declared.Heading.TheVariants.{End, Nowhere, Ports}
use Rattle.router_ports.specs.Each.{each}
use Rattle.router_ports.specs.Ports.{input_store, output_store}
use Rattle.router_ports.specs.declared.Mode.{Mode}
use Rattle.router_ports.specs.declared.Mode.TheVariants.{Idle, Waiting, Routed, Spilling}
use Rattle.router_rounds.specs.Acts.{Acts, Tally, changed_to, count_moved, count_error, count_round}
use Rattle.router_rounds.specs.Addresses.{follows, reads, if_idle, addresses, part1}
use Rattle.router_rounds.specs.Grants.{is_free, chosen, granted, grants_to, grants, part2}
use Rattle.router_rounds.specs.Moves.{moves, moves_one, spills_one, if_sending, sends, part3}

-- `Adds k t u`: from t to u each count has grown by at most k, and no round was counted
pub record Adds {X : Type 0} (k : ℕ) (t u : Tally X) : Type 0 where
  pub moved : u.moved ≤ t.moved + k
  pub errors : u.errors ≤ t.errors + k
  pub rounds : u.rounds ≡ t.rounds

module _ {X : Type 0} where
  none : (t : Tally X) → Adds 1 t t
  none t = record { moved = omega arith; errors = omega arith; rounds = refl }

  only_changed : (t : Tally X) (x : X) → Adds 1 t (changed_to t x)
  unfolding changed_to
  only_changed t x = record { moved = omega arith; errors = omega arith; rounds = refl }

  one_error : (t : Tally X) (x : X) → Adds 1 t (changed_to (count_error t) x)
  unfolding changed_to count_error
  one_error t x = record { moved = omega arith; errors = omega arith; rounds = refl }

  one_moved : (t : Tally X) (x : X) → Adds 1 t (changed_to (count_moved t) x)
  unfolding changed_to count_moved
  one_moved t x = record { moved = omega arith; errors = omega arith; rounds = refl }

  either : (b : Bool) (t u w : Tally X) → Adds 1 t u → Adds 1 t w → Adds 1 t (pick b u w)
  either true t u w a z = a
  either false t u w a z = z

  adds_trans : (j k : ℕ) (t u w : Tally X) → Adds j t u → Adds k u w → Adds (j + k) t w
  adds_trans j k t u w a z =
      record {
        moved = omega (arith, a.moved, z.moved);
        errors = omega (arith, a.errors, z.errors);
        rounds = z.rounds ∙ a.rounds;
      }

  each_adds : (f : Tally X → ℕ → Tally X) → ((t : Tally X) (i : ℕ) → Adds 1 t (f t i)) →
      (i n : ℕ) (t : Tally X) → Adds n t (each f i n t)
  unfolding each
  each_adds f one i zero t = record { moved = omega arith; errors = omega arith; rounds = refl }
  each_adds f one i (suc n) t = more (one t i) (each_adds f one (i + 1) n (f t i))
    where
      more : Adds 1 t (f t i) → Adds n (f t i) (each f (i + 1) n (f t i)) →
          Adds (suc n) t (each f (i + 1) n (f t i))
      more a z =
          record {
            moved = omega (arith, a.moved, z.moved);
            errors = omega (arith, a.errors, z.errors);
            rounds = z.rounds ∙ a.rounds;
          }

  pub round_keeps_moved : (t : Tally X) → (count_round t).moved ≡ t.moved
  unfolding count_round
  round_keeps_moved t = refl

  pub round_keeps_errors : (t : Tally X) → (count_round t).errors ≡ t.errors
  unfolding count_round
  round_keeps_errors t = refl

  pub round_counts_one : (t : Tally X) → (count_round t).rounds ≡ t.rounds + 1
  unfolding count_round
  round_counts_one t = refl

module _ {X : Type 0} (M : Acts X) where
  follows_adds : (t : Tally X) (i : ℕ) (h : Heading) → Adds 1 t (follows M t i h)
  follows_adds t i End = only_changed t _
  follows_adds t i Nowhere = one_error t _
  follows_adds t i (Ports d) = only_changed t _

  pub addresses_add : (table : List ℕ) (t : Tally X) (i : ℕ) → Adds 1 t (addresses M table t i)
  unfolding addresses reads
  addresses_add table t i = go (M.mode t.now i)
    where
      go : (m : Mode) → Adds 1 t (if_idle M table t i m)
      go Idle =
          either (M.is_empty t.now (input_store i)) t t _ (none t)
          (follows_adds t i (heading table (M.front t.now (input_store i))))
      go (Waiting w) = none t
      go (Routed o) = none t
      go Spilling = none t

  pub grants_add : (t : Tally X) (o : ℕ) → Adds 1 t (grants M t o)
  unfolding grants granted
  grants_add t o = either (is_free (M.output t.now o).owner) t _ t (go (chosen M t.now o)) (none t)
    where
      go : (c : Option ℕ) → Adds 1 t (grants_to M t o c)
      go None = none t
      go (Some i) = only_changed t _

  pub sends_add : (t : Tally X) (i : ℕ) → Adds 1 t (sends M t i)
  unfolding sends moves_one moves spills_one
  sends_add t i = go (M.mode t.now i)
    where
      go : (m : Mode) → Adds 1 t (if_sending M t i m)
      go Idle = none t
      go (Waiting w) = none t
      go (Routed o) =
          either (M.is_full t.now (output_store o)) t t _ (none t)
          (either (M.is_empty t.now (input_store i)) t t _ (none t) (one_moved t _))
      go Spilling = either (M.is_empty t.now (input_store i)) t t _ (none t) (only_changed t _)

  module _ (table : List ℕ) (t : Tally X) where
    pub part1_adds : Adds 11 t (part1 M table t)
    unfolding part1
    part1_adds = each_adds (addresses M table) (addresses_add table) 0 11 t

    pub part2_adds : Adds 11 t (part2 M t)
    unfolding part2
    part2_adds = each_adds (grants M) grants_add 0 11 t

    pub part3_adds : Adds 11 t (part3 M t)
    unfolding part3
    part3_adds = each_adds (sends M) sends_add 0 11 t

  pub first_parts_add : (table : List ℕ) (t : Tally X) → Adds 22 t (part2 M (part1 M table t))
  first_parts_add table t =
      adds_trans 11 11 t (part1 M table t) (part2 M (part1 M table t)) (part1_adds table t) (part2_adds table (part1 M table t))

  pub parts_add : (table : List ℕ) (t : Tally X) → Adds 33 t (part3 M (part2 M (part1 M table t)))
  parts_add table t =
      adds_trans 22 11 t (part2 M (part1 M table t)) (part3 M (part2 M (part1 M table t))) (first_parts_add table t)
      (part3_adds table (part2 M (part1 M table t)))
