-- Seven words are those of a decoder: the tests that a phase leaves of all say how large each word may be.
-- Assumes nothing.
use Prim.Native.Nat.{ℕ, zero, suc}
use mathlib.Core.Path.{◌≡◌, refl, sym, ap, subst, ◌∙◌}
use mathlib.Core.Bool.{Bool, true, false, not, ◌&&◌, ◌||◌}
use mathlib.Core.Logic.{◌⊎◌, inl, inr}
use mathlib.Core.List.{List, [], ◌∷◌}
use native.Mathlib.Omega.{arith}
use lib.Dec.{eqb, ltb, leb}
use lib.ListN.{length}
use borrow.Author.Tests.{eq-eqb, ne_eqb, lt-ltb, le-ltb, lt-leb, le-leb, leb-true, leb-false, ltb-true, ltb-false}
use Rattle.words.specs.Words.{same, word_at, byte, truth, truth_word}
use Rattle.words.proofs.NumberLaws.{byte_back}
use Rattle.words.proofs.SameLaws.{same_lengths}
use Rattle.characters.specs.Refusals.{bad_waiting}
use Rattle.characters.specs.DecoderWords.{waiting_number, waiting_value, waiting_of, most_value, within}
use Rattle.characters.specs.declared.reports.Waiting.{Waiting}
use Rattle.characters.specs.declared.phases.Phase as numbers
use Rattle.characters.specs.declared.phases.Phase.TheVariants as the
use Rattle.characters.specs.DecoderWords.{phase_number, decoder_from, decoder_of, decoder_words, is_good_as, is_good}
use Rattle.characters.specs.States.{Decoder, Fresh, Heard, Stopped, Hunting, Between, Parity, Data, Control, Second}
use Rattle.characters.proofs.WaitingLaws.{waiting_test}

-- seven words, one by one
pub seven : (v : List ℕ) → length v ≡ 7 → let w = word_at v in v ≡ w 0 ∷ w 1 ∷ w 2 ∷ w 3 ∷ w 4 ∷ w 5 ∷ w 6 ∷ []
seven (s ∷ t ∷ u ∷ v ∷ w ∷ x ∷ y ∷ []) h = refl
seven [] h = absurd (omega (arith, h))
seven (s ∷ []) h = absurd (omega (arith, h))
seven (s ∷ t ∷ []) h = absurd (omega (arith, h))
seven (s ∷ t ∷ u ∷ []) h = absurd (omega (arith, h))
seven (s ∷ t ∷ u ∷ v ∷ []) h = absurd (omega (arith, h))
seven (s ∷ t ∷ u ∷ v ∷ w ∷ []) h = absurd (omega (arith, h))
seven (s ∷ t ∷ u ∷ v ∷ w ∷ x ∷ []) h = absurd (omega (arith, h))
seven (s ∷ t ∷ u ∷ v ∷ w ∷ x ∷ y ∷ z ∷ l) h = absurd (omega (arith, h))

pub and_true : (b : Bool) → b && true ≡ b
and_true true = refl
and_true false = refl

and_false : (b : Bool) → b && false ≡ false
and_false true = refl
and_false false = refl

-- each test of a word is that it is the word of what it means
zero_test : (w : ℕ) → leb w 0 ≡ eqb w 0
zero_test zero = refl
zero_test (suc n) = rw (lt-leb (suc n) 0 (omega arith), ne_eqb (suc n) 0 (λ e. omega (arith, e)))

pub truth_test : (w : ℕ) → leb w 1 ≡ eqb w (truth_word (truth w))
truth_test zero = refl
truth_test (suc zero) = refl
truth_test (suc (suc n)) =
    rw (
      lt-leb (suc (suc n)) 1 (omega arith),
      ne_eqb (suc (suc n)) 0 (λ e. omega (arith, e)),
      ne_eqb (suc (suc n)) 1 (λ e. omega (arith, e)),
    )

silence_test : (w : ℕ) → leb w 8 ≡ eqb w (byte w) && not (ltb 8 (byte w))
silence_test w = by (leb w 8) refl (ltb w 256) refl
  where
    by : (a : Bool) → leb w 8 ≡ a → (b : Bool) → ltb w 256 ≡ b → leb w 8 ≡ eqb w (byte w) && not (ltb 8 (byte w))
    by true p true q = rw (p, byte_back w (ltb-true w 256 q), eq-eqb w w refl, le-ltb 8 w (leb-true w 8 p))
    by false p true q = rw (p, byte_back w (ltb-true w 256 q), eq-eqb w w refl, lt-ltb 8 w (leb-false w 8 p))
    by true p false q = absurd (omega (arith, leb-true w 8 p, ltb-false w 256 q))
    by false p false q = rw (p, ne_eqb w (byte w) (λ e. omega (arith, e, ltb-false w 256 q)))

-- the eight places, which have one value that the rules never give
places_test : (w never : ℕ) → leb w 255 && not (eqb w never) ≡ eqb w (byte w) && not (eqb (byte w) never)
places_test w never = by (ltb w 256) refl
  where
    by : (b : Bool) → ltb w 256 ≡ b → leb w 255 && not (eqb w never) ≡ eqb w (byte w) && not (eqb (byte w) never)
    by true q =
        rw (
          le-leb w 255 (omega (arith, ltb-true w 256 q)),
          byte_back w (ltb-true w 256 q),
          eq-eqb w w refl,
        )
    by false q =
        rw (
          lt-leb w 255 (omega (arith, ltb-false w 256 q)),
          ne_eqb w (byte w) (λ e. omega (arith, e, ltb-false w 256 q)),
        )

-- The words are tested in their order, and the decoder's values behind them: two tests of words go into two of values.
regrouped : (own short n x e f p q places never : Bool) → p && q ≡ places && never →
    ((own && short) && (n && (x && (e && (f && (p && true)))))) && q
    ≡ (own && (n && (x && (e && (f && (places && true)))))) && (short && never)
regrouped false short n x e f p q places never h = refl
regrouped true false n x e f p q places never h = sym (and_false (n && (x && (e && (f && (places && true))))))
regrouped true true false x e f p q places never h = refl
regrouped true true true false e f p q places never h = refl
regrouped true true true true false f p q places never h = refl
regrouped true true true true true false p q places never h = refl
regrouped true true true true true true p q places never h = rw (and_true p, and_true places) h

neither : (a b : Bool) → not (a || b) ≡ not a && not b
neither true b = refl
neither false b = refl

-- The same where what waits is tested by its number and value together.
together : (n x rest : Bool) → n && (x && rest) ≡ (n && x) && rest
together true x rest = refl
together false x rest = refl

behind : (n x ok rest : Bool) → (n && (x && ok)) && rest ≡ (n && (x && rest)) && ok
behind false x ok rest = refl
behind true false ok rest = refl
behind true true false rest = sym (and_false rest)
behind true true true rest = sym (and_true rest)

regrouped_waiting : (own short n x rest number value ok : Bool) → n && x ≡ number && (value && ok) →
    (own && short) && (n && (x && rest)) ≡ (own && (number && (value && rest))) && (short && ok)
regrouped_waiting false short n x rest number value ok h = refl
regrouped_waiting true false n x rest number value ok h = sym (and_false (number && (value && rest)))
regrouped_waiting true true n x rest number value ok h = rw (together n x rest, h) (behind number value ok rest)

-- of a decoder that has heard a bit: the tests of its words, and those of the words and values that are to be there
heard : (s : ℕ) (tp tq p bad : Bool) {tn n tx x te e tf f : Bool} → tn ≡ n → tx ≡ x → te ≡ e → tf ≡ f →
    tp && tq ≡ p && not bad →
    (leb s 8 && (tn && (tx && (te && (tf && (tp && true)))))) && tq
    ≡ (eqb s (byte s) && (n && (x && (e && (f && (p && true)))))) && not (ltb 8 (byte s) || bad)
heard s tp tq p bad {n} {x} {e} {f} hn hx he hf hp =
    rw (silence_test s, neither (ltb 8 (byte s)) bad, hn, hx, he, hf)
    (regrouped (eqb s (byte s)) (not (ltb 8 (byte s))) n x e f tp tq p (not bad) hp)

-- the same where there is no such value
plain : (s : ℕ) {tn n tx x te e tf f tp p : Bool} → tn ≡ n → tx ≡ x → te ≡ e → tf ≡ f → tp ≡ p →
    leb s 8 && (tn && (tx && (te && (tf && (tp && true)))))
    ≡ (eqb s (byte s) && (n && (x && (e && (f && (p && true)))))) && not (ltb 8 (byte s) || false)
plain s {tp} {p} hn hx he hf hp =
    sym (and_true _) ∙ heard s tp true p false hn hx he hf (ap (λ (b : Bool). b && true) hp)

waited : (s : ℕ) (tn tx n x bad : Bool) {te e tf f tp p : Bool} → tn && tx ≡ n && (x && not bad) → te ≡ e → tf ≡ f →
    tp ≡ p →
    leb s 8 && (tn && (tx && (te && (tf && (tp && true)))))
    ≡ (eqb s (byte s) && (n && (x && (e && (f && (p && true)))))) && not (ltb 8 (byte s) || bad)
waited s tn tx n x bad {e} {f} {p} h he hf hp =
    rw (silence_test s, neither (ltb 8 (byte s)) bad, he, hf, hp)
    (regrouped_waiting (eqb s (byte s)) (not (ltb 8 (byte s))) tn tx (e && (f && (p && true))) n x (not bad) h)

-- other words than seven are no decoder's
seven_words : (d : Decoder) → length (decoder_words d) ≡ 7
seven_words Fresh = refl
seven_words (Heard (Hunting places) silent) = refl
seven_words (Heard (Between w) silent) = refl
seven_words (Heard (Parity w p) silent) = refl
seven_words (Heard (Data escape places) silent) = refl
seven_words (Heard (Control escape) silent) = refl
seven_words (Heard (Second escape a) silent) = refl
seven_words Stopped = refl

pub other_length_not_good : (v : List ℕ) → (length v ≡ 7 → ⊥) → is_good v ≡ false
unfolding is_good is_good_as
other_length_not_good v other =
    rw (same_lengths v (decoder_words (decoder_of v)) (λ e. other (e ∙ seven_words (decoder_of v))))

-- what is allowed in each phase
module _ (v : List ℕ) (whole : length v ≡ 7) where
  abbrev w : ℕ → ℕ
  w k = word_at v k

  abbrev zero_at : (k : ℕ) → leb (w k) 0 ≡ eqb (w k) 0
  zero_at k = zero_test (w k)

  abbrev truth_at : (k : ℕ) → leb (w k) 1 ≡ eqb (w k) (truth_word (truth (w k)))
  truth_at k = truth_test (w k)

  pub fresh_good : word_at v 0 ≡ 0 → within v (7 ∷ 0 ∷ 0 ∷ 0 ∷ 0 ∷ 0 ∷ 0 ∷ []) ≡ is_good v
  unfolding is_good is_good_as decoder_of decoder_from same
  fresh_good phase =
      subst (λ (u : List ℕ). within u (7 ∷ 0 ∷ 0 ∷ 0 ∷ 0 ∷ 0 ∷ 0 ∷ []) ≡ is_good u) (sym (seven v whole))
      (rw phase
      (rw (zero_at 1, zero_at 2, zero_at 3, zero_at 4, zero_at 5, zero_at 6) (sym (and_true _))))

  stopped_good : word_at v 0 ≡ 7 → within v (7 ∷ 0 ∷ 0 ∷ 0 ∷ 0 ∷ 0 ∷ 0 ∷ []) ≡ is_good v
  unfolding is_good is_good_as decoder_of decoder_from same
  stopped_good phase =
      subst (λ (u : List ℕ). within u (7 ∷ 0 ∷ 0 ∷ 0 ∷ 0 ∷ 0 ∷ 0 ∷ []) ≡ is_good u) (sym (seven v whole))
      (rw phase
      (rw (zero_at 1, zero_at 2, zero_at 3, zero_at 4, zero_at 5, zero_at 6) (sym (and_true _))))

  pub unused_good : {p : numbers.Phase} → (p ≡ the.Fresh) ⊎ (p ≡ the.Stopped) → word_at v 0 ≡ phase_number p →
      within v (7 ∷ 0 ∷ 0 ∷ 0 ∷ 0 ∷ 0 ∷ 0 ∷ []) ≡ is_good v
  unused_good (inl e) phase = fresh_good (rw e at phase)
  unused_good (inr e) phase = stopped_good (rw e at phase)

  pub hunting_good : word_at v 0 ≡ 1 →
      within v (7 ∷ 8 ∷ 0 ∷ 0 ∷ 0 ∷ 0 ∷ 255 ∷ []) && not (eqb (word_at v 6) 46) ≡ is_good v
  unfolding is_good is_good_as decoder_of decoder_from same
  hunting_good phase =
      subst (λ (u : List ℕ). within u (7 ∷ 8 ∷ 0 ∷ 0 ∷ 0 ∷ 0 ∷ 255 ∷ []) && not (eqb (word_at u 6) 46) ≡ is_good u)
      (sym (seven v whole))
      (rw phase
      (heard (w 1) (leb (w 6) 255) (not (eqb (w 6) 46)) (eqb (w 6) (byte (w 6))) (eqb (byte (w 6)) 46)
      (zero_at 2) (zero_at 3) (zero_at 4) (zero_at 5) (places_test (w 6) 46)))

  abbrev waits : Waiting
  waits = waiting_of (w 2) (w 3)

  pub between_good : word_at v 0 ≡ 2 → within v (7 ∷ 8 ∷ 5 ∷ most_value (word_at v 2) ∷ 0 ∷ 0 ∷ 0 ∷ []) ≡ is_good v
  unfolding is_good is_good_as decoder_of decoder_from same
  between_good phase =
      subst (λ (u : List ℕ). within u (7 ∷ 8 ∷ 5 ∷ most_value (word_at u 2) ∷ 0 ∷ 0 ∷ 0 ∷ []) ≡ is_good u)
      (sym (seven v whole))
      (rw phase
      (waited (w 1) (leb (w 2) 5) (leb (w 3) (most_value (w 2))) (eqb (w 2) (waiting_number waits))
      (eqb (w 3) (waiting_value waits)) (bad_waiting waits) (waiting_test (w 2) (w 3)) (zero_at 4) (zero_at 5) (zero_at 6)))

  pub parity_good : word_at v 0 ≡ 3 → within v (7 ∷ 8 ∷ 5 ∷ most_value (word_at v 2) ∷ 0 ∷ 1 ∷ 0 ∷ []) ≡ is_good v
  unfolding is_good is_good_as decoder_of decoder_from same
  parity_good phase =
      subst (λ (u : List ℕ). within u (7 ∷ 8 ∷ 5 ∷ most_value (word_at u 2) ∷ 0 ∷ 1 ∷ 0 ∷ []) ≡ is_good u)
      (sym (seven v whole))
      (rw phase
      (waited (w 1) (leb (w 2) 5) (leb (w 3) (most_value (w 2))) (eqb (w 2) (waiting_number waits))
      (eqb (w 3) (waiting_value waits)) (bad_waiting waits) (waiting_test (w 2) (w 3)) (zero_at 4) (truth_at 5) (zero_at 6)))

  pub data_good : word_at v 0 ≡ 4 →
      within v (7 ∷ 8 ∷ 0 ∷ 0 ∷ 1 ∷ 0 ∷ 255 ∷ []) && not (eqb (word_at v 6) 0) ≡ is_good v
  unfolding is_good is_good_as decoder_of decoder_from same
  data_good phase =
      subst (λ (u : List ℕ). within u (7 ∷ 8 ∷ 0 ∷ 0 ∷ 1 ∷ 0 ∷ 255 ∷ []) && not (eqb (word_at u 6) 0) ≡ is_good u)
      (sym (seven v whole))
      (rw phase
      (heard (w 1) (leb (w 6) 255) (not (eqb (w 6) 0)) (eqb (w 6) (byte (w 6))) (eqb (byte (w 6)) 0)
      (zero_at 2) (zero_at 3) (truth_at 4) (zero_at 5) (places_test (w 6) 0)))

  pub control_good : word_at v 0 ≡ 5 → within v (7 ∷ 8 ∷ 0 ∷ 0 ∷ 1 ∷ 0 ∷ 0 ∷ []) ≡ is_good v
  unfolding is_good is_good_as decoder_of decoder_from same
  control_good phase =
      subst (λ (u : List ℕ). within u (7 ∷ 8 ∷ 0 ∷ 0 ∷ 1 ∷ 0 ∷ 0 ∷ []) ≡ is_good u) (sym (seven v whole))
      (rw phase
      (plain (w 1) (zero_at 2) (zero_at 3) (truth_at 4) (zero_at 5) (zero_at 6)))

  pub second_good : word_at v 0 ≡ 6 → within v (7 ∷ 8 ∷ 0 ∷ 0 ∷ 1 ∷ 1 ∷ 0 ∷ []) ≡ is_good v
  unfolding is_good is_good_as decoder_of decoder_from same
  second_good phase =
      subst (λ (u : List ℕ). within u (7 ∷ 8 ∷ 0 ∷ 0 ∷ 1 ∷ 1 ∷ 0 ∷ []) ≡ is_good u) (sym (seven v whole))
      (rw phase
      (plain (w 1) (zero_at 2) (zero_at 3) (truth_at 4) (truth_at 5) (zero_at 6)))
