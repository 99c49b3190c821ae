-- What a call leaves of seven words: STATE of words that are not good, STOPPED of those of a stopped decoder, and
-- else what the rules give.
-- Assumes nothing.
use Prim.Native.Nat.{ℕ, zero, suc, ◌<◌, ◌≤◌}
use mathlib.Core.Path.{◌≡◌, refl, sym, ap, subst, ◌∙◌}
use mathlib.Core.Bool.{Bool, true, false, not, ◌&&◌, ◌||◌, true≢false, false≢true}
use mathlib.Core.List.{List, [], ◌∷◌}
use native.Mathlib.Omega.{arith}
use lib.Dec.{eqb, ltb}
use borrow.Author.Tests.{ne_eqb}
use Rattle.std.specs.Prelude.{Option, Result, Ok, Err, is_ok}
use Rattle.vocabulary.specs.Choice.{pick}
use Rattle.vocabulary.specs.declared.Refusal.{Refusal}
use Rattle.vocabulary.specs.Refusals.{STATE, STOPPED, number, test, first_of}
use Rattle.words.specs.Words.{Left, word_at, truth, byte, same}
use Rattle.words.proofs.SameLaws.{same_is}
use Rattle.characters.proofs.ChoiceLaws.{refusal_or}
use Rattle.characters.specs.declared.phases.Phase as numbers
use Rattle.characters.specs.declared.phases.Phase.TheVariants as the
use Rattle.characters.specs.declared.reports.Report.{Report}
use Rattle.characters.specs.declared.reports.Waiting.{Waiting}
use Rattle.characters.specs.States.{Phase, Hunting, Between, Parity, Data, Control, Second, Decoder, Fresh, Heard}
use Rattle.characters.specs.States.{Stopped, Step}
use Rattle.characters.specs.Reports.{report_words}
use Rattle.characters.specs.Decoder.{bit_step, tick_step, silence}
use Rattle.characters.specs.Refusals.{bad_waiting, bad_decoder, is_stopped}
use Rattle.characters.specs.Calls.{bit_answer, tick_answer, decode_accepted, decode_refused}
use Rattle.characters.specs.DecoderWords.{decoder_words, phase_words, decoder_from, decoder_of, decoded, no_decoder}
use Rattle.characters.specs.DecoderWords.{accepted}
use Rattle.characters.specs.DecoderWords.{phase_number, phase_numbered, waiting_of, bit_left, tick_left, is_decoder}
use Rattle.characters.specs.DecoderWords.{is_good_as}
use Rattle.characters.specs.DecoderWords.{is_good, Made, Takes}

-- the words as they were, with this refusal
abbrev kept : List ℕ → ℕ → Left
kept words n = record { refusal = n; state = words; out = 0 ∷ 0 ∷ [] }

-- what is left, by whether the words are the decoder's, whether its values are bad, and whether it is stopped
by_tests : (words : List ℕ) (d : Decoder) (s : Step) (own bad stopped : Bool) → (own ≡ true → words ≡ decoder_words d) →
    let n = first_of (test STATE bad ∷ test STOPPED stopped ∷ []) in
    pick own (decoded (pick (eqb n 0) (decode_accepted s) (decode_refused d n))) (no_decoder words)
    ≡ pick (own && not bad) (pick stopped (kept words 7) (accepted s)) (no_decoder words)
unfolding decoded decode_refused no_decoder
by_tests words d s false bad stopped own = refl
by_tests words d s true true stopped own = ap (λ (w : List ℕ). kept w 1) (sym (own refl))
by_tests words d s true false true own = ap (λ (w : List ℕ). kept w 7) (sym (own refl))
by_tests words d s true false false own = refl

module _ (words : List ℕ) where
  abbrev d : Decoder
  d = decoder_of words

  abbrev left_of : Step → Left
  left_of s = pick (is_good words) (pick (is_stopped d) (kept words 7) (accepted s)) (no_decoder words)

  bit_tested : (b : ℕ) → bit_left words b ≡ left_of (bit_step d (truth b))
  unfolding bit_left bit_answer is_good is_good_as
  bit_tested b =
      by_tests words d (bit_step d (truth b)) (is_decoder words) (bad_decoder d) (is_stopped d) (same_is words _)

  tick_tested : tick_left words ≡ left_of (tick_step d)
  unfolding tick_left tick_answer is_good is_good_as
  tick_tested =
      by_tests words d (tick_step d) (is_decoder words) (bad_decoder d) (is_stopped d) (same_is words _)

  first_true : (a b : Bool) → a && b ≡ true → a ≡ true
  first_true true b e = refl
  first_true false b e = absurd (false≢true e)

  pub own_words : is_good words ≡ true → words ≡ decoder_words d
  unfolding is_good is_good_as
  own_words good = same_is words _ (first_true (is_decoder words) (not (bad_decoder d)) good)

  pub own_values : is_good words ≡ true → bad_decoder d ≡ false
  unfolding is_good is_good_as
  own_values good = by (is_decoder words) (bad_decoder d) good
    where
      by : (own bad : Bool) → own && not bad ≡ true → bad ≡ false
      by own false e = refl
      by true true e = absurd (false≢true e)
      by false true e = absurd (false≢true e)

  made : (s : Step) {new : List ℕ} {report : Option Report} → Made s new report →
      record { refusal = 0; state = new; out = report_words report } ≡ accepted s
  unfolding decoded decode_accepted
  made s (w, r) = rw (w, r)

-- what words with the number of a phase mean
module _ (words : List ℕ) where
  abbrev silent : ℕ
  silent = byte (word_at words 1)

  abbrev waits : Waiting
  waits = waiting_of (word_at words 2) (word_at words 3)

  abbrev places : ℕ
  places = byte (word_at words 6)

  pub stopped_means : word_at words 0 ≡ 7 → decoder_of words ≡ Stopped
  unfolding decoder_of decoder_from
  stopped_means h = rw h

  pub fresh_means : word_at words 0 ≡ 0 → decoder_of words ≡ Fresh
  unfolding decoder_of decoder_from
  fresh_means h = rw h

  pub hunting_means : word_at words 0 ≡ 1 → decoder_of words ≡ Heard (Hunting places) silent
  unfolding decoder_of decoder_from
  hunting_means h = rw h

  pub between_means : word_at words 0 ≡ 2 → decoder_of words ≡ Heard (Between waits) silent
  unfolding decoder_of decoder_from
  between_means h = rw h

  pub parity_means : word_at words 0 ≡ 3 → decoder_of words ≡ Heard (Parity waits (truth (word_at words 5))) silent
  unfolding decoder_of decoder_from
  parity_means h = rw h

  pub data_means : word_at words 0 ≡ 4 → decoder_of words ≡ Heard (Data (truth (word_at words 4)) places) silent
  unfolding decoder_of decoder_from
  data_means h = rw h

  pub control_means : word_at words 0 ≡ 5 → decoder_of words ≡ Heard (Control (truth (word_at words 4))) silent
  unfolding decoder_of decoder_from
  control_means h = rw h

  pub second_means : word_at words 0 ≡ 6 → decoder_of words ≡ Heard
      (Second (truth (word_at words 4)) (truth (word_at words 5))) silent
  unfolding decoder_of decoder_from
  second_means h = rw h

-- a phase is found by its number alone
abbrev Numbered : ℕ → Result numbers.Phase Refusal → Type 0
Numbered n (Ok p) = n ≡ phase_number p
Numbered n (Err r) = (r ≡ STATE) × (8 ≤ n)

numbered : (n : ℕ) → Numbered n (phase_numbered n)
numbered zero = refl
numbered (suc zero) = refl
numbered (suc (suc zero)) = refl
numbered (suc (suc (suc zero))) = refl
numbered (suc (suc (suc (suc zero)))) = refl
numbered (suc (suc (suc (suc (suc zero))))) = refl
numbered (suc (suc (suc (suc (suc (suc zero)))))) = refl
numbered (suc (suc (suc (suc (suc (suc (suc zero))))))) = refl
numbered (suc (suc (suc (suc (suc (suc (suc (suc n)))))))) = large (suc (suc (suc (suc (suc (suc (suc (suc n)))))))) (omega arith)
  where
    large : (n : ℕ) → 8 ≤ n → Numbered n (phase_numbered n)
    large n h =
        let none : (k : ℕ) → k < 8 → eqb n k ≡ false = λ k j. ne_eqb n k (λ e. omega (arith, e, h, j)) in
        rw (
          none 1 (omega arith),
          none 2 (omega arith),
          none 3 (omega arith),
          none 4 (omega arith),
          none 5 (omega arith),
          none 6 (omega arith),
          none 7 (omega arith),
          none 0 (omega arith),
        )
        (refl, h)

module _ (words : List ℕ) (large : 8 ≤ word_at words 0) where
  none : (k : ℕ) → k < 8 → eqb (word_at words 0) k ≡ false
  none k h = ne_eqb (word_at words 0) k (λ e. omega (arith, e, h, large))

  none_means : decoder_of words ≡ Fresh
  unfolding decoder_of decoder_from
  none_means =
      rw (
        none 1 (omega arith),
        none 2 (omega arith),
        none 3 (omega arith),
        none 4 (omega arith),
        none 5 (omega arith),
        none 6 (omega arith),
        none 7 (omega arith),
      )

  unlike : (v : List ℕ) → (word_at v 0 ≡ 0 → ⊥) → same v (decoder_words Fresh) ≡ false
  unfolding same
  unlike [] h = refl
  unlike (x ∷ v) h = rw (ne_eqb x 0 h)

  none_good : is_good words ≡ false
  unfolding is_good is_good_as
  none_good = rw (none_means, unlike words (λ e. omega (arith, e, large)))

-- the phase of good words
module _ (words : List ℕ) where
  abbrev found : Result numbers.Phase Refusal
  found = pick (is_good words) (phase_numbered (word_at words 0)) (Err STATE)

  found_good : {p : numbers.Phase} → found ≡ Ok p → (is_good words ≡ true) × (word_at words 0 ≡ phase_number p)
  found_good {p} = by (is_good words) refl
    where
      by : (good : Bool) → is_good words ≡ good → pick good (phase_numbered (word_at words 0)) (Err STATE) ≡ Ok p →
          (is_good words ≡ true) × (word_at words 0 ≡ phase_number p)
      by true g e = (g, subst (Numbered (word_at words 0)) e (numbered (word_at words 0)))
      by false g e = absurd (false≢true (ap is_ok e))

  found_bad : {r : Refusal} → found ≡ Err r → (is_good words ≡ false) × (STATE ≡ r)
  found_bad {r} = by (is_good words) refl
    where
      by : (good : Bool) → is_good words ≡ good → pick good (phase_numbered (word_at words 0)) (Err STATE) ≡ Err r →
          (is_good words ≡ false) × (STATE ≡ r)
      by true g e =
          let told = subst (Numbered (word_at words 0)) e (numbered (word_at words 0)) in
          (none_good words told.1, sym told.0)
      by false g e = (g, ap (refusal_or STATE) e)

  -- what a bit makes of them
  pub bit_taken : (b : ℕ) {t : Bool} {p : numbers.Phase} {new : List ℕ} {report : Option Report} {e : Decoder} →
      t ≡ truth b → found ≡ Ok p → (word_at words 0 ≡ phase_number p → decoder_of words ≡ e) → is_stopped e ≡ false →
      (bad_decoder e ≡ false → Takes words e t new report) →
      record { refusal = 0; state = new; out = report_words report } ≡ bit_left words b
  bit_taken b one phase means moving takes =
      let good = found_good phase in
      let is = means good.1 in
      made words _ (takes (sym (ap bad_decoder is) ∙ own_values words good.0) (own_words words good.0 ∙ ap decoder_words is))
      ∙ sym (rw (bit_tested words b, good.0, is, moving, ← one))

  -- what waits is neither bad nor too large
  pub waiting_good : (silent : ℕ) (w : Waiting) → ltb 8 silent || bad_waiting w ≡ false → bad_waiting w ≡ false
  waiting_good silent w e = by (ltb 8 silent) e
    where
      by : (long : Bool) → long || bad_waiting w ≡ false → bad_waiting w ≡ false
      by true e = absurd (true≢false e)
      by false e = e

  pub bit_stopped : (b : ℕ) → found ≡ Ok the.Stopped → kept words 7 ≡ bit_left words b
  bit_stopped b phase =
      let good = found_good phase in
      sym (rw (bit_tested words b, good.0, stopped_means words good.1))

  pub bit_refused : (b : ℕ) {r : Refusal} → found ≡ Err r → kept words (number r) ≡ bit_left words b
  unfolding no_decoder
  bit_refused b none =
      let bad = found_bad none in
      sym (rw (bit_tested words b, bad.0, ← bad.1))

  -- what a tick makes of them
  tick_taken : {p : numbers.Phase} {new : List ℕ} {report : Option Report} {e : Decoder} → found ≡ Ok p →
      (word_at words 0 ≡ phase_number p → decoder_of words ≡ e) → is_stopped e ≡ false →
      (words ≡ decoder_words e → Made (tick_step e) new report) →
      record { refusal = 0; state = new; out = report_words report } ≡ tick_left words
  tick_taken phase means moving takes =
      let good = found_good phase in
      let is = means good.1 in
      made words _ (takes (own_words words good.0 ∙ ap decoder_words is))
      ∙ sym (rw (tick_tested words, good.0, is, moving))

  pub tick_fresh : found ≡ Ok the.Fresh → kept words 0 ≡ tick_left words
  tick_fresh phase = tick_taken phase (fresh_means words) refl (λ shape. (shape, refl))

  pub tick_counted : (p : numbers.Phase) {new : List ℕ} {report : Option Report} → found ≡ Ok p → (p ≡ the.Fresh → ⊥) →
      (p ≡ the.Stopped → ⊥) → ((q : Phase) (s : ℕ) → words ≡ phase_words q s → Made (silence q s) new report) →
      record { refusal = 0; state = new; out = report_words report } ≡ tick_left words
  tick_counted the.Fresh phase fresh stopped counts = absurd (fresh refl)
  tick_counted the.Hunting phase fresh stopped counts = tick_taken phase (hunting_means words) refl (counts _ _)
  tick_counted the.Between phase fresh stopped counts = tick_taken phase (between_means words) refl (counts _ _)
  tick_counted the.Parity phase fresh stopped counts = tick_taken phase (parity_means words) refl (counts _ _)
  tick_counted the.Data phase fresh stopped counts = tick_taken phase (data_means words) refl (counts _ _)
  tick_counted the.Control phase fresh stopped counts = tick_taken phase (control_means words) refl (counts _ _)
  tick_counted the.Second phase fresh stopped counts = tick_taken phase (second_means words) refl (counts _ _)
  tick_counted the.Stopped phase fresh stopped counts = absurd (stopped refl)

  pub tick_stopped : found ≡ Ok the.Stopped → kept words 7 ≡ tick_left words
  tick_stopped phase =
      let good = found_good phase in
      sym (rw (tick_tested words, good.0, stopped_means words good.1))

  pub tick_refused : {r : Refusal} → found ≡ Err r → kept words (number r) ≡ tick_left words
  unfolding no_decoder
  tick_refused none =
      let bad = found_bad none in
      sym (rw (tick_tested words, bad.0, ← bad.1))
