-- The tests of a router's words, port by port, say whether the words keep a router and whether it is refused as STATE.
-- Assumes nothing.
use Rattle.std.specs.Prelude.{Option, None, Some}
use mathlib.Core.Path.{◌≡◌, refl, sym, ap, ap₂, ◌∙◌}
use mathlib.Core.Bool.{Bool, true, false, false≢true, not, ◌&&◌, ◌||◌}
use mathlib.Core.List.{List}
use Prim.Native.Nat.{ℕ, ◌+◌, ◌-◌, ◌*◌, ◌/◌, ◌%◌, ◌^◌, ◌≤◌, ◌<◌}
use native.Mathlib.Decide.{dec_lt, ℕ_discrete}
use native.Mathlib.Nat.{mod-eq_of_lt}
use native.Mathlib.Omega.{arith}
use lib.Dec.{eqb, ltb}
use lib.ListN.{length}
use lib.Seq.{ext_get_or}
use borrow.Author.Tests.{eq-eqb, ne_eqb, eqb-true, lt-ltb, le-ltb}
use Rattle.vocabulary.specs.Choice.{pick}
use Rattle.words.specs.Words.{word_at, same, truth, truth_word, narrow}
use Rattle.words.proofs.SameLaws.{same_is, same_itself, same_lengths}
use Rattle.store.proofs.OrLaws.{or_left, or_right}
use Rattle.store.specs.StoreWords.{store_words, store_of}
use Rattle.store.specs.declared.Store.{Store}
use Rattle.router_ports.specs.Each.{any}
use Rattle.router_ports.specs.Ports.{mode_at, output_at}
use Rattle.router_ports.specs.Refusals as rules
use Rattle.router_ports.specs.Refusals.{is_owner, is_routed, bad_port, bad_ports}
use Rattle.router_ports.specs.Records.{Router}
use Rattle.router_ports.specs.RouterWords.{mode_words, output_words, router_word, router_words}
use Rattle.router_ports.specs.RouterWords.{wanted_of, mode_of, owner_of, input_in, output_in, store_in, router_of, is_router}
use Rattle.router_ports.specs.StateWords.{bad_state, held_by, routed_to, bad_mode, bad_owner, bad_input_in, bad_output_in, bad_port_in}
use Rattle.router_ports.specs.declared.Mode.{Mode}
use Rattle.router_ports.specs.declared.Mode.TheVariants.{Idle, Waiting, Routed, Spilling}
use Rattle.router_ports.specs.declared.Output.{Output}
use Rattle.router_ports.proofs.EachLaws.{none_at, or_true, or_false}
use Rattle.router_ports.proofs.StateLaws.{any_none}
use Rattle.router_ports.proofs.ListedLaws.{length_listed}
use Rattle.router_ports.proofs.PlaceWords.{nothing_more, mode_in, output_in_lem, store_in_lem, mode_word, output_word, store_word, saved_word}

-- three numbers that are the words of what they mean
abbrev same3 : ℕ → ℕ → ℕ → List ℕ → Bool
same3 a b c row = eqb a (word_at row 0) && (eqb b (word_at row 1) && eqb c (word_at row 2))

-- what 1 STATE says of a mode, where `held` says whether the input owns the output
abbrev refused : Bool → Mode → Bool
refused held Idle = false
refused held (Waiting w) = rules.bad_wanted w
refused held (Routed o) = ltb 10 o || not held
refused held Spilling = false

both_zero : (b c : Bool) → pick b (not c) true ≡ not (b && c) || false
both_zero true true = refl
both_zero true false = refl
both_zero false c = refl

one_bit : (c : ℕ) → ltb 1 c ≡ not (eqb c (truth_word (truth c)))
one_bit c = go (ℕ_discrete c 0) (ℕ_discrete c 1)
  where
    go : Dec (c ≡ 0) → Dec (c ≡ 1) → ltb 1 c ≡ not (eqb c (truth_word (truth c)))
    go (yes z) d = rw z
    go (no n) (yes o) = rw o
    go (no n) (no d) = rw (lt-ltb 1 c (omega (arith, n, d)), ne_eqb c 0 n, ne_eqb c 1 d)

in_turn : (a b e : Bool) → pick a true (pick b true (not e)) ≡ not e || (a || b)
in_turn true b true = refl
in_turn true b false = refl
in_turn false true true = refl
in_turn false true false = refl
in_turn false false true = refl
in_turn false false false = refl

module _ (b c : ℕ) where
  waiting_words : pick (eqb b 0) true (pick (ltb 2047 b) true (ltb 1 c))
      ≡ not (same3 1 b c (mode_words (Waiting (wanted_of b c)))) || rules.bad_wanted (wanted_of b c)
  unfolding wanted_of
  waiting_words = go (dec_lt b 65536)
    where
      go : Dec (b < 65536) → pick (eqb b 0) true (pick (ltb 2047 b) true (ltb 1 c))
          ≡ not (eqb b (b % 65536) && eqb c (truth_word (truth c))) || (eqb (b % 65536) 0 || ltb 2047 (b % 65536))
      go (yes l) =
          rw (mod-eq_of_lt l, eq-eqb b b refl, one_bit c) (in_turn (eqb b 0) (ltb 2047 b) (eqb c (truth_word (truth c))))
      go (no l) =
          rw (
            ne_eqb b 0 (λ e. omega (arith, l, e)),
            lt-ltb 2047 b (omega (arith, l)),
            ne_eqb b (b % 65536) (λ e. omega (arith, l, e)),
          )

  routed_words : (held : Bool) → ((b < 11 → ⊥) → held ≡ false) →
      pick (eqb c 0) (not held) true ≡ not (same3 2 b c (mode_words (Routed b))) || (ltb 10 b || not held)
  routed_words held none = go (dec_lt b 11)
    where
      go : Dec (b < 11) → pick (eqb c 0) (not held) true ≡ not (eqb b (narrow b) && eqb c 0) || (ltb 10 b || not held)
      go (yes l) =
          let small : b < 2 ^ 32 = omega (arith, l) in
          rw (mod-eq_of_lt small, eq-eqb b b refl, le-ltb 10 b (omega (arith, l))) (zero_high (eqb c 0))
        where
          zero_high : (z : Bool) → pick z (not held) true ≡ not z || not held
          zero_high true = refl
          zero_high false = refl
      go (no l) = rw (none l, lt-ltb 10 b (omega (arith, l)), or_true) (either (eqb c 0))
        where
          either : (z : Bool) → pick z true true ≡ true
          either true = refl
          either false = refl

  mode_words_lem : (n : ℕ) (held : Bool) → ((b < 11 → ⊥) → held ≡ false) →
      bad_mode n b c held ≡ not (same3 n b c (mode_words (mode_of n b c))) || refused held (mode_of n b c)
  unfolding mode_of
  mode_words_lem n held none = go (ℕ_discrete n 0) (ℕ_discrete n 1) (ℕ_discrete n 2) (ℕ_discrete n 3)
    where
      go : Dec (n ≡ 0) → Dec (n ≡ 1) → Dec (n ≡ 2) → Dec (n ≡ 3) →
          bad_mode n b c held ≡ not (same3 n b c (mode_words (mode_of n b c))) || refused held (mode_of n b c)
      go (yes e) d1 d2 d3 = rw e (both_zero (eqb b 0) (eqb c 0))
      go (no d0) (yes e) d2 d3 = rw e waiting_words
      go (no d0) (no d1) (yes e) d3 = rw e (routed_words held none)
      go (no d0) (no d1) (no d2) (yes e) = rw e (both_zero (eqb b 0) (eqb c 0))
      go (no d0) (no d1) (no d2) (no d3) = rw (ne_eqb n 1 d1, ne_eqb n 2 d2, ne_eqb n 3 d3, ne_eqb n 0 d0)

-- and of an owner, where `routed` says whether it is routed to the output

abbrev disowned : Bool → Option ℕ → Bool
disowned routed None = false
disowned routed (Some i) = ltb 10 i || not routed

owner_words : (n input last : ℕ) (routed : Bool) → ((input < 11 → ⊥) → routed ≡ false) →
    bad_owner n input last routed
    ≡ not (same3 n input last (output_words (owner_of n input) last)) || (disowned routed (owner_of n input) || ltb 10 last)
owner_words n input last routed none = go (dec_lt 10 last) (ℕ_discrete n 0) (ℕ_discrete n 1) (dec_lt input 11)
  where
    go : Dec (10 < last) → Dec (n ≡ 0) → Dec (n ≡ 1) → Dec (input < 11) →
        bad_owner n input last routed
        ≡ not (same3 n input last (output_words (owner_of n input) last)) || (disowned routed (owner_of n input) || ltb 10 last)
    go (yes l) d0 d1 i = rw (lt-ltb 10 last l, or_true, or_true)
    go (no l) (yes e) d1 i =
        let small : last < 2 ^ 32 = omega (arith, l) in
        rw (e, le-ltb 10 last (omega (arith, l)), mod-eq_of_lt small, eq-eqb last last refl) (unowned (eqb input 0))
      where
        unowned : (z : Bool) → not z ≡ not (z && true) || false
        unowned true = refl
        unowned false = refl
    go (no l) (no d0) (yes e) (yes i) =
        let small : last < 2 ^ 32 = omega (arith, l) in
        let low : input < 2 ^ 32 = omega (arith, i) in
        rw (
          e,
          le-ltb 10 last (omega (arith, l)),
          le-ltb 10 input (omega (arith, i)),
          mod-eq_of_lt small,
          mod-eq_of_lt low,
          eq-eqb last last refl,
          eq-eqb input input refl,
        ) (sym (or_false (not routed)))
    go (no l) (no d0) (yes e) (no i) =
        rw (e, le-ltb 10 last (omega (arith, l)), none i, lt-ltb 10 input (omega (arith, i)), or_true)
    go (no l) (no d0) (no d1) i = rw (ne_eqb n 1 d1, ne_eqb n 0 d0, le-ltb 10 last (omega (arith, l)))

-- in the words of a router

and_left : (a b : Bool) → a && b ≡ true → a ≡ true
and_left true b e = refl
and_left false b e = e

and_right : (a b : Bool) → a && b ≡ true → b ≡ true
and_right true b e = e
and_right false b e = absurd (false≢true e)

not_true : (a : Bool) → not a ≡ false → a ≡ true
not_true true e = refl
not_true false e = sym e

owned_is : (n input i : ℕ) → pick (eqb n 1) (eqb input i) false ≡ is_owner (owner_of n input) i
owned_is n input i = go (eqb n 1)
  where
    go : (b : Bool) → pick b (eqb input i) false ≡ is_owner (pick b (Some input) None) i
    go true = refl
    go false = refl

routed_is : (n value high o : ℕ) → pick (eqb n 2) (eqb value o) false ≡ is_routed (mode_of n value high) o
unfolding mode_of
routed_is n value high o = go (ℕ_discrete n 2) (eqb n 1) (eqb n 3)
  where
    go : Dec (n ≡ 2) → (one three : Bool) → pick (eqb n 2) (eqb value o) false ≡ is_routed (mode_of n value high) o
    go (yes e) one three = rw e
    go (no d) one three = rw (ne_eqb n 2 d) (other (eqb n 1) (eqb n 3))
      where
        other : (one three : Bool) →
            false ≡ is_routed (pick one (Waiting (wanted_of value high)) (pick three Spilling Idle)) o
        other true three = refl
        other false true = refl
        other false false = refl

-- the value of a routed input, and of an output that is held
routed_value : (n value high o : ℕ) → mode_of n value high ≡ Routed o → value ≡ o
unfolding mode_of
routed_value n value high o e = go (eqb n 1) (eqb n 2) (eqb n 3) e
  where
    go : (a b c : Bool) → pick a (Waiting (wanted_of value high)) (pick b (Routed value) (pick c Spilling Idle)) ≡ Routed o →
        value ≡ o
    go true b c z = cc
    go false true c z = cc
    go false false true z = cc
    go false false false z = cc

owner_value : (n input i : ℕ) → owner_of n input ≡ Some i → input ≡ i
owner_value n input i e = go (eqb n 1) e
  where
    go : (b : Bool) → pick b (Some input) None ≡ Some i → input ≡ i
    go true z = cc
    go false z = cc

module _ (words : List ℕ) where
  abbrev s : Router
  s = router_of words

  pub held_is : (o i : ℕ) → o < 11 → held_by words o i ≡ is_owner (output_at s o).owner i
  unfolding output_in
  held_is o i h =
      let there : held_by words o i ≡ is_owner (output_in words o).owner i =
      rw (lt-ltb o 11 h) (owned_is (word_at words (3 * o + 33)) (word_at words (3 * o + 33 + 1)) i) in
      there ∙ ap (λ (out : Output). is_owner out.owner i) (sym (output_in_lem words o h))

  pub routed_to_is : (i o : ℕ) → i < 11 → routed_to words i o ≡ is_routed (mode_at s i) o
  unfolding input_in
  routed_to_is i o h =
      let there : routed_to words i o ≡ is_routed (input_in words i).mode o =
      rw (lt-ltb i 11 h) (routed_is (word_at words (3 * i)) (word_at words (3 * i + 1)) (word_at words (3 * i + 2)) o) in
      there ∙ ap (λ (m : Mode). is_routed m o) (sym (mode_in words i h))

  refused_is : (i : ℕ) (m : Mode) (held : Bool) → ((o : ℕ) → m ≡ Routed o → o < 11 → held ≡ is_owner (output_at s o).owner i) →
      refused held m ≡ rules.bad_mode s i m
  refused_is i Idle held same = refl
  refused_is i (Waiting w) held same = refl
  refused_is i (Routed o) held same = go (dec_lt o 11)
    where
      go : Dec (o < 11) → ltb 10 o || not held ≡ ltb 10 o || not (is_owner (output_at s o).owner i)
      go (yes l) = rw (same o refl l)
      go (no l) = rw (lt-ltb 10 o (omega (arith, l)))
  refused_is i Spilling held same = refl

  disowned_is : (o : ℕ) (w : Option ℕ) (routed : Bool) → ((i : ℕ) → w ≡ Some i → i < 11 → routed ≡ is_routed (mode_at s i) o) →
      disowned routed w ≡ rules.bad_owner s o w
  disowned_is o None routed same = refl
  disowned_is o (Some i) routed same = go (dec_lt i 11)
    where
      go : Dec (i < 11) → ltb 10 i || not routed ≡ ltb 10 i || not (is_routed (mode_at s i) o)
      go (yes l) = rw (same i refl l)
      go (no l) = rw (lt-ltb 10 i (omega (arith, l)))

  -- the words of an input, an output and a store, against those that they are saved as
  abbrev right_at : ℕ → Bool
  right_at k = eqb (word_at words k) (router_word s k)

  mode_right : (p : ℕ) → p < 11 →
      right_at (3 * p) && (right_at (3 * p + 1) && right_at (3 * p + 2))
      ≡ same3 (word_at words (3 * p)) (word_at words (3 * p + 1)) (word_at words (3 * p + 2)) (mode_words (mode_at s p))
  mode_right p h =
      let first : router_word s (3 * p) ≡ word_at (mode_words (mode_at s p)) 0 =
      ap (router_word s) (nothing_more (3 * p)) ∙ mode_word s p 0 h (omega arith) in
      rw (first, mode_word s p 1 h (omega arith), mode_word s p 2 h (omega arith))

  output_right : (p : ℕ) → p < 11 →
      right_at (3 * p + 33) && (right_at (3 * p + 33 + 1) && right_at (3 * p + 33 + 2))
      ≡ same3 (word_at words (3 * p + 33)) (word_at words (3 * p + 33 + 1)) (word_at words (3 * p + 33 + 2))
      (output_words (output_at s p).owner (output_at s p).last)
  output_right p h =
      let first : router_word s (3 * p + 33) ≡ word_at (output_words (output_at s p).owner (output_at s p).last) 0 =
      ap (router_word s) (nothing_more (3 * p + 33)) ∙ output_word s p 0 h (omega arith) in
      rw (first, output_word s p 1 h (omega arith), output_word s p 2 h (omega arith))

  mode_here : (p : ℕ) → p < 11 →
      mode_at s p ≡ mode_of (word_at words (3 * p)) (word_at words (3 * p + 1)) (word_at words (3 * p + 2))
  unfolding input_in
  mode_here p h = mode_in words p h

  input_test : (p : ℕ) → p < 11 →
      bad_input_in words p
      ≡ not (right_at (3 * p) && (right_at (3 * p + 1) && right_at (3 * p + 2))) || rules.bad_mode s p (mode_at s p)
  unfolding bad_input_in
  input_test p h =
      let a = word_at words (3 * p) in
      let b = word_at words (3 * p + 1) in
      let c = word_at words (3 * p + 2) in
      let means : mode_at s p ≡ mode_of a b c = mode_here p h in
      mode_words_lem b c a (held_by words b p) (λ l. rw (le-ltb b 11 (omega (arith, l))))
      ∙ ap₂ (λ (x y : Bool). not x || y)
      (ap (λ (m : Mode). same3 a b c (mode_words m)) (sym means) ∙ sym (mode_right p h))
      (ap (refused (held_by words b p)) (sym means)
      ∙ refused_is p (mode_at s p) (held_by words b p)
      (λ o e l. ap (λ (o : ℕ). held_by words o p) (routed_value a b c o (sym means ∙ e)) ∙ held_is o p l))

  output_here : (p : ℕ) → p < 11 →
      output_at s p
      ≡ record {
        owner = owner_of (word_at words (3 * p + 33)) (word_at words (3 * p + 33 + 1));
        last = word_at words (3 * p + 33 + 2);
      }
  unfolding output_in
  output_here p h = output_in_lem words p h

  output_test : (p : ℕ) → p < 11 →
      bad_output_in words p
      ≡ not (right_at (3 * p + 33) && (right_at (3 * p + 33 + 1) && right_at (3 * p + 33 + 2))) || rules.bad_output s p
  unfolding bad_output_in
  output_test p h =
      let n = word_at words (3 * p + 33) in
      let input = word_at words (3 * p + 33 + 1) in
      let last = word_at words (3 * p + 33 + 2) in
      let means : output_at s p ≡ record { owner = owner_of n input; last = last } = output_here p h in
      owner_words n input last (routed_to words input p) (λ l. rw (le-ltb input 11 (omega (arith, l))))
      ∙ ap₂ (λ (x y : Bool). not x || y)
      (ap (λ (out : Output). same3 n input last (output_words out.owner out.last)) (sym means) ∙ sym (output_right p h))
      (ap (λ (out : Output). disowned (routed_to words input p) out.owner || ltb 10 out.last) (sym means)
      ∙ ap (λ (x : Bool). x || ltb 10 (output_at s p).last)
      (disowned_is p (output_at s p).owner (routed_to words input p)
      (λ i e l. ap (λ (i : ℕ). routed_to words i p) (owner_value n input i (sym (ap (λ (out : Output). out.owner) means) ∙ e))
      ∙ routed_to_is i p l)))

  -- each word of a row is right where the row is
  row_right : (from k : ℕ) → right_at from && (right_at (from + 1) && right_at (from + 2)) ≡ true → from ≤ k → k < from + 3 →
      right_at k ≡ true
  row_right from k e h l = go (ℕ_discrete k from) (ℕ_discrete k (from + 1))
    where
      rest : right_at (from + 1) && right_at (from + 2) ≡ true
      rest = and_right (right_at from) _ e

      go : Dec (k ≡ from) → Dec (k ≡ from + 1) → right_at k ≡ true
      go (yes z) d = ap right_at z ∙ and_left (right_at from) _ e
      go (no n) (yes z) = ap right_at z ∙ and_left (right_at (from + 1)) _ rest
      go (no n) (no d) =
          ap right_at (let z : k ≡ from + 2 = omega (arith, h, l, n, d) in z)
          ∙ and_right (right_at (from + 1)) (right_at (from + 2)) rest

  module _ (fits : (k : ℕ) → word_at words k < 2 ^ 32) where
    -- a store's words are right as they are
    store_right : (k j : ℕ) → k < 22 → j < 2 → right_at (2 * k + 66 + j) ≡ true
    unfolding store_of
    store_right k j h l = eq-eqb _ _ (sym (store_word s k j l ∙ ap (λ (st : Store). word_at (store_words st) j) (store_in_lem words k h) ∙ go (ℕ_discrete j 0)))
      where
        go : Dec (j ≡ 0) → word_at (store_words (store_in words k)) j ≡ word_at words (2 * k + 66 + j)
        go (yes z) = rw z (mod-eq_of_lt (fits (2 * k + 66)) ∙ ap (word_at words) (nothing_more (2 * k + 66)))
        go (no d) = rw (let e : j ≡ 1 = omega (arith, d, l) in e) (mod-eq_of_lt (fits (2 * k + 66 + 1)))

    module _ (good : (p : ℕ) → p < 11 → bad_port_in words p ≡ false) where
      input_good : (p : ℕ) → p < 11 →
          not (right_at (3 * p) && (right_at (3 * p + 1) && right_at (3 * p + 2))) || rules.bad_mode s p (mode_at s p) ≡ false
      input_good p h = sym (input_test p h) ∙ or_left (bad_input_in words p) (bad_output_in words p) (good p h)

      output_good : (p : ℕ) → p < 11 →
          not (right_at (3 * p + 33) && (right_at (3 * p + 33 + 1) && right_at (3 * p + 33 + 2))) || rules.bad_output s p ≡ false
      output_good p h = sym (output_test p h) ∙ or_right (bad_input_in words p) (bad_output_in words p) (good p h)

      word_right : (k : ℕ) → k < 110 → right_at k ≡ true
      word_right k h = go (dec_lt k 33) (dec_lt k 66)
        where
          go : Dec (k < 33) → Dec (k < 66) → right_at k ≡ true
          go (yes l) d =
              row_right (3 * (k / 3)) k (not_true _ (or_left _ _ (input_good (k / 3) (omega (arith, l))))) (omega arith) (omega arith)
          go (no b) (yes l) =
              row_right (3 * ((k - 33) / 3) + 33) k (not_true _ (or_left _ _ (output_good ((k - 33) / 3) (omega (arith, l)))))
              (omega (arith, b)) (omega (arith, b))
          go (no b) (no l) =
              ap right_at (let e : k ≡ 2 * ((k - 66) / 2) + 66 + (k - 66) % 2 = omega (arith, l) in e)
              ∙ store_right ((k - 66) / 2) ((k - 66) % 2) (omega (arith, h, l)) (omega arith)

      good_is_router : length words ≡ 110 → is_router words ≡ true
      unfolding router_words
      good_is_router long =
          let eq : words ≡ router_words s =
          ext_get_or 0 words (router_words s) (long ∙ sym (length_listed (router_word s) 0 110))
          (λ k l. eqb-true _ _ (word_right k (omega (arith, l, long))) ∙ sym (saved_word s k (omega (arith, l, long)))) in
          ap (same words) (sym eq) ∙ same_itself words

      good_ports : bad_ports s ≡ false
      unfolding bad_ports
      good_ports =
          any_none (bad_port s) 11
          (λ p h.
          let mode : rules.bad_mode s p (mode_at s p) ≡ false =
          or_right (not (right_at (3 * p) && (right_at (3 * p + 1) && right_at (3 * p + 2)))) _ (input_good p h) in
          let output : rules.bad_output s p ≡ false =
          or_right (not (right_at (3 * p + 33) && (right_at (3 * p + 33 + 1) && right_at (3 * p + 33 + 2)))) _ (output_good p h) in
          rw (mode, output)) 0 11 (omega arith)

    pub good_state : length words ≡ 110 → ((p : ℕ) → p < 11 → bad_port_in words p ≡ false) → bad_state words ≡ false
    good_state long good = rw (good_is_router good long, good_ports good)

  -- and in the words of a router that is not refused no port is wrong
  module _ (p : ℕ) (h : p < 11) (wrong : bad_port_in words p ≡ true) where
    refused_port : is_router words ≡ true → bad_ports s ≡ false → ⊥
    unfolding bad_ports
    refused_port is good =
        false≢true (sym port ∙ wrong)
      where
        right : (k : ℕ) → k < 110 → right_at k ≡ true
        right k l =
            eq-eqb (word_at words k) (router_word s k)
            (ap (λ (w : List ℕ). word_at w k) (same_is words (router_words s) is) ∙ saved_word s k l)

        here : bad_port s p ≡ false
        here = none_at (bad_port s) 0 11 p good (omega arith) (omega (arith, h))

        port : bad_port_in words p ≡ false
        port =
            rw (
              input_test p h,
              output_test p h,
              right (3 * p) (omega (arith, h)),
              right (3 * p + 1) (omega (arith, h)),
              right (3 * p + 2) (omega (arith, h)),
              right (3 * p + 33) (omega (arith, h)),
              right (3 * p + 33 + 1) (omega (arith, h)),
              right (3 * p + 33 + 2) (omega (arith, h)),
            ) here

    pub bad_port_bad_state : bad_state words ≡ true
    bad_port_bad_state = go (is_router words) (bad_ports s) refl refl
      where
        go : (is bad : Bool) → is_router words ≡ is → bad_ports s ≡ bad → not is || bad ≡ true
        go true true e d = refl
        go true false e d = absurd (refused_port e d)
        go false bad e d = refl

  pub other_length_bad_state : (length words ≡ 110 → ⊥) → bad_state words ≡ true
  unfolding router_words
  other_length_bad_state d =
      rw (same_lengths words (router_words s) (λ e. d (e ∙ length_listed (router_word s) 0 110)))

  -- what the test of each port says of all
  pub tested_state : length words ≡ 110 → ((k : ℕ) → word_at words k < 2 ^ 32) →
      bad_state words ≡ any (λ (p : ℕ). ltb p 11 && bad_port_in words p) 0 11
  tested_state long fits = go (bad_state words) (any tested 0 11) refl refl
    where
      tested : ℕ → Bool
      tested p = ltb p 11 && bad_port_in words p

      passed : any tested 0 11 ≡ false → (p : ℕ) → p < 11 → bad_port_in words p ≡ false
      passed none p h =
          let here : tested p ≡ false = none_at tested 0 11 p none (omega arith) (omega (arith, h)) in
          rw (lt-ltb p 11 h) at here

      right : (p : ℕ) → p < 11 → (b : Bool) → bad_port_in words p ≡ b → bad_state words ≡ false → tested p ≡ false
      right p h false e good = rw (lt-ltb p 11 h) e
      right p h true e good = absurd (false≢true (sym good ∙ bad_port_bad_state p h e))

      go : (bad some : Bool) → bad_state words ≡ bad → any tested 0 11 ≡ some → bad ≡ some
      go true true e f = refl
      go false false e f = refl
      go true false e f = absurd (false≢true (sym (good_state fits long (passed f)) ∙ e))
      go false true e f =
          absurd (false≢true (sym (any_none tested 11 (λ p h. right p h (bad_port_in words p) refl e) 0 11 (omega arith)) ∙ f))
