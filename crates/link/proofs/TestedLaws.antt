-- What the tests of a call come to, one behind the other: a call goes on where a test does not apply, and is refused with its
-- number where it does.
-- Assumes nothing.
use Rattle.std.specs.Prelude.{ℕ, Result, Ok, Err, IsErr}
use Rattle.std.specs.Result.{IsErrAnd}
use mathlib.Core.Path.{◌≡◌, refl, sym, ap, ◌∙◌}
use mathlib.Core.Bool.{Bool, true, false, not, ◌||◌}
use mathlib.Core.List.{List}
use native.Mathlib.Omega.{arith}
use lib.Dec.{eqb}
use borrow.Author.Tests.{ne_eqb}
use Rattle.vocabulary.specs.Choice.{pick}
use Rattle.vocabulary.specs.Refusals.{STATE, number, refusal_in}
use Rattle.vocabulary.specs.declared.Refusal.{Refusal}
use Rattle.vocabulary.proofs.RefusalLaws.{not_none}
use Rattle.link.specs.Refusals.{bad_record}
use Rattle.link.specs.LinkWords.{link_words, link_of, is_link}
use Rattle.link.specs.LinkCalls.{record_refused}
use Rattle.link.specs.InPlace.{Reads}
use Rattle.link.proofs.LinkLaws.{own_words}

-- what a test comes to, and the answer of a call that makes no other
abbrev pub refuses : {A : Type 0} → Bool → Refusal → A → Result A Refusal
refuses applies r answer = pick applies (Err r) (Ok answer)

module _ {A : Type 0} (r : Refusal) (answer : A) where
  -- a test behind which the call goes on
  pub past : {applies test : Bool} {given : A} {n later : ℕ} →
      applies ≡ test → Ok given ≡ refuses applies r answer → n ≡ later → n ≡ pick test (number r) later
  past {applies} {test} {given} {n} {later} is e h = by applies is e
    where
      by : (b : Bool) → b ≡ test → Ok given ≡ refuses b r answer → n ≡ pick test (number r) later
      by true p q = cc
      by false p q = rw (sym p) h

  pub answers : (applies : Bool) {given : A} → Ok given ≡ refuses applies r answer → given ≡ answer
  answers applies {given} e = by applies e
    where
      by : (b : Bool) → Ok given ≡ refuses b r answer → given ≡ answer
      by true q = cc
      by false q = cc

  -- one that refuses it
  pub stops : {applies test : Bool} {s : Refusal} (later : ℕ) →
      applies ≡ test → Err s ≡ refuses applies r answer → number s ≡ pick test (number r) later
  stops {applies} {test} {s} later is e = by applies is e
    where
      by : (b : Bool) → b ≡ test → Err s ≡ refuses b r answer → number s ≡ pick test (number r) later
      by true p q = rw (sym p) (cc)
      by false p q = cc

  -- and the last one
  pub last : {applies test : Bool} (x : Result A Refusal) →
      applies ≡ test → x ≡ refuses applies r answer → refusal_in x ≡ pick test (number r) 0
  last {applies} {test} x is e = by applies is e
    where
      by : (b : Bool) → b ≡ test → x ≡ refuses b r answer → refusal_in x ≡ pick test (number r) 0
      by true p q = rw (sym p, q)
      by false p q = rw (sym p, q)

-- what a `?` that is refused hands on
pub handed_on : {A : Type 0} {r : Refusal} (x : Result A Refusal) → IsErr x × IsErrAnd x (λ (s : Refusal). s ≡ r) → x ≡ Err r
handed_on (Ok a) h = absurd h.1
handed_on (Err s) h = ap Err h.1

pub refused : {A : Type 0} (r : Refusal) {n : ℕ} (x : Result A Refusal) → IsErr x × IsErrAnd x (λ (s : Refusal). s ≡ r) →
    number r ≡ n → refusal_in x ≡ n
refused {A} r {n} x h e = ap refusal_in (handed_on x h) ∙ e

-- The record comes first in every call: words that are no end's, then its numbers.
pub last_record : (words : List ℕ) {no bad : Bool} {u : Unit {0}} (x : Result (Unit {0}) Refusal) → no ≡ not (is_link words) →
    Ok u ≡ refuses no STATE tt → Reads words bad_record bad → x ≡ refuses bad STATE tt → refusal_in x ≡ record_refused words
last_record words {no} {bad} {u} x none e reads is = by (is_link words) refl no none e
  where
    by : (link : Bool) → is_link words ≡ link → (b : Bool) → b ≡ not link → Ok u ≡ refuses b STATE tt →
        refusal_in x ≡ pick link (pick (bad_record (link_of words)) (number STATE) 0) (number STATE)
    by true p b q r = last STATE tt x (reads (link_of words) (own_words words p)) is
    by false p true q r = cc
    by false p false q r = cc

pub past_record : (words : List ℕ) {n : ℕ} (later : ℕ) → 0 ≡ record_refused words →
    (words ≡ link_words (link_of words) → n ≡ later) →
    n ≡ pick (is_link words) (pick (bad_record (link_of words)) (number STATE) later) (number STATE)
past_record words {n} later e h = by (is_link words) refl (bad_record (link_of words)) e
  where
    by : (link : Bool) → is_link words ≡ link → (bad : Bool) → 0 ≡ pick link (pick bad (number STATE) 0) (number STATE) →
        n ≡ pick link (pick bad (number STATE) later) (number STATE)
    by true p true q = absurd (omega arith)
    by true p false q = h (own_words words p)
    by false p bad q = absurd (omega arith)

pub record_stops : (words : List ℕ) (later : ℕ) (r : Refusal) → number r ≡ record_refused words →
    number r ≡ pick (is_link words) (pick (bad_record (link_of words)) (number STATE) later) (number STATE)
record_stops words later r = by (is_link words) (bad_record (link_of words))
  where
    by : (link bad : Bool) → number r ≡ pick link (pick bad (number STATE) 0) (number STATE) →
        number r ≡ pick link (pick bad (number STATE) later) (number STATE)
    by true true e = e
    by true false e = absurd (not_none r e)
    by false bad e = e

-- tests that stand behind those of every call
pub past_both : {n later both : ℕ} → 0 ≡ both → n ≡ later → n ≡ pick (eqb both 0) later both
past_both e h = rw (sym e) h

pub both_stops : {both : ℕ} (later : ℕ) (r : Refusal) → number r ≡ both → number r ≡ pick (eqb both 0) later both
both_stops later r e = rw (ne_eqb _ 0 (λ z. not_none r (e ∙ z))) e

-- two tests of one refusal
pub first_applies : (b : Bool) {r a : Bool} → r ≡ a → r ≡ true → true ≡ (a || b)
first_applies b p q = rw (sym p ∙ q)

pub then_second : {r a s b : Bool} → r ≡ a → r ≡ false → s ≡ b → s ≡ (a || b)
then_second p q h = rw (sym p ∙ q) h
