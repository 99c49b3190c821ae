-- A run, round by round: it is the first round and then the rest, until a round that changes nothing, which is its last.
-- Assumes nothing.
use mathlib.Core.Path.{◌≡◌, sym, ap, ◌∙◌}
use mathlib.Core.Bool.{Bool, true, false}
use mathlib.Core.List.{List}
use Prim.Native.Nat.{ℕ, suc, ◌+◌, ◌*◌, ◌-◌, ◌≤◌, ◌<◌}
use native.Mathlib.Omega.{arith}
use Rattle.router_rounds.specs.Acts.{Acts, Tally, count_round}
use Rattle.router_rounds.specs.Addresses.{part1}
use Rattle.router_rounds.specs.Grants.{part2}
use Rattle.router_rounds.specs.Moves.{part3}
use Rattle.router_rounds.specs.Rounds.{begun, round, rounds as runs}
use Rattle.router_rounds.specs.InWords.{Words, in_words, tally, uncounted, added}
use Rattle.router_rounds.specs.declared.Totals.{Totals}
use Rattle.router_rounds.proofs.CountLaws.{parts_add, round_keeps_moved, round_keeps_errors, round_counts_one}
use Rattle.router_rounds.proofs.PartLaws.{few_done}

module _ {X : Type 0} (M : Acts X) (table : List ℕ) (limit : ℕ) (t : Tally X) where
  pub runs_on : 0 < limit → (round M table t).changed ≡ true →
      runs M table limit t ≡ runs M table (limit - 1) (round M table t)
  unfolding runs
  runs_on h e =
      let more : limit ≡ suc (limit - 1) = omega arith in
      ap (λ (n : ℕ). runs M table n t) more ∙ rw e

  pub stops : 0 < limit → (round M table t).changed ≡ false → runs M table limit t ≡ round M table t
  unfolding runs
  stops h e =
      let more : limit ≡ suc (limit - 1) = omega arith in
      ap (λ (n : ℕ). runs M table n t) more ∙ rw e

  pub ends : limit ≤ 0 → runs M table limit t ≡ t
  unfolding runs
  ends h =
      let none : limit ≡ 0 = omega arith in
      ap (λ (n : ℕ). runs M table n t) none

-- a run of at most `limit` rounds after `i` of them: what is left of it, done to the words as they are, is the run
module _ (table : List ℕ) (limit : ℕ) (before : Words) where
  pub record Ran (i : ℕ) (totals : Totals) (now : Words) : Type 0 where
    pub rounds : totals.rounds ≤ i
    pub moved : totals.moved ≤ 33 * i
    pub errors : totals.errors ≤ 33 * i
    pub left : runs in_words table limit (begun before) ≡ runs in_words table (limit - i) (tally totals now)

  pub none_ran : Ran 0 uncounted before
  unfolding begun
  none_ran =
      let all : limit - 0 ≡ limit = omega arith in
      record { rounds = omega arith; moved = omega arith; errors = omega arith; left = rw all }

  pub all_ran : (i : ℕ) (totals : Totals) (now : Words) → limit ≤ i → Ran i totals now →
      tally totals now ≡ runs in_words table limit (begun before)
  all_ran i totals now h r = sym (r.left ∙ ends in_words table (limit - i) (tally totals now) (omega arith))

  -- one round more: `counting` is what is counted as it begins, `done` what its parts do
  module _ (i : ℕ) (totals counting done : Totals) (now next : Words) (h : i < limit) (r : Ran i totals now)
      (b : (w : Words) → tally counting w ≡ count_round (tally totals w))
      (e : (c : Totals) → tally (added c done) next ≡ part3 in_words (part2 in_words (part1 in_words table (tally c now)))) where
    abbrev t : Tally Words
    t = tally totals now

    one_more : tally (added counting done) next ≡ round in_words table t
    unfolding round
    one_more = e counting ∙ ap (λ (u : Tally Words). part3 in_words (part2 in_words (part1 in_words table u))) (b now)

    pub few_more : ((added counting done).rounds ≤ i + 1)
        × ((added counting done).moved ≤ 33 * (i + 1))
        × ((added counting done).errors ≤ 33 * (i + 1))
    few_more =
        let few = few_done (λ (u : Tally Words). part3 in_words (part2 in_words (part1 in_words table u))) 33 now next done
        (parts_add in_words table) e in
        let n : counting.rounds ≡ totals.rounds + 1 = ap (λ (u : Tally Words). u.rounds) (b now) ∙ round_counts_one t in
        let o : counting.moved ≡ totals.moved = ap (λ (u : Tally Words). u.moved) (b now) ∙ round_keeps_moved t in
        let p : counting.errors ≡ totals.errors = ap (λ (u : Tally Words). u.errors) (b now) ∙ round_keeps_errors t in
        (omega (arith, few.0, r.rounds, n), omega (arith, few.1, r.moved, o), omega (arith, few.2, r.errors, p))

    module _ (more : Totals) (m : more ≡ added counting done) where
      marked : (x : Bool) → more.changed ≡ x → (round in_words table t).changed ≡ x
      marked x c = sym (ap (λ (u : Tally Words). u.changed) one_more) ∙ sym (ap (λ (k : Totals). k.changed) m) ∙ c

      pub one_ran : more.changed ≡ true → Ran (i + 1) more next
      one_ran c =
          let rest : limit - (i + 1) ≡ limit - i - 1 = omega arith in
          rw m (
          record {
            rounds = few_more.0;
            moved = few_more.1;
            errors = few_more.2;
            left =
                r.left
                ∙ runs_on in_words table (limit - i) t (omega arith) (marked true c)
                ∙ ap (λ (n : ℕ). runs in_words table n (round in_words table t)) (sym rest)
                ∙ ap (runs in_words table (limit - (i + 1))) (sym one_more);
          }
          )

      pub last_ran : more.changed ≡ false → tally more next ≡ runs in_words table limit (begun before)
      last_ran c =
          ap (λ (k : Totals). tally k next) m
          ∙ one_more
          ∙ sym (r.left ∙ stops in_words table (limit - i) t (omega arith) (marked false c))
