-- The words of a link end give it back, part by part; and words are an end's where each is the word of what it means.
-- Assumes nothing.
use Prim.Native.Nat.{ℕ, zero, suc}
use mathlib.Core.Path.{◌≡◌, refl, ap, ◌∙◌}
use mathlib.Core.Bool.{Bool, true, false, not, ◌||◌, ◌&&◌, and-true}
use mathlib.Core.List.{List, [], ◌∷◌}
use native.Mathlib.Omega.{arith}
use lib.ListN.{length}
use lib.Dec.{eqb}
use borrow.Author.Tests.{eq-eqb}
use Rattle.std.specs.Prelude.{Option, None, Some}
use Rattle.vocabulary.specs.Choice.{pick}
use Rattle.words.specs.Words.{word_at, truth, truth_word, byte, same}
use Rattle.words.proofs.NumberLaws.{byte_back, truth_back}
use Rattle.words.proofs.SameLaws.{same_is, same_itself}
use Rattle.store.specs.StoreWords.{store_of}
use Rattle.time.specs.declared.Time.{Time}
use Rattle.link.specs.Send.{offer_number, offer_value}
use Rattle.link.specs.Moves.{state_number}
use Rattle.link.specs.Table.{state_of}
use Rattle.link.specs.Records.{Link}
use Rattle.link.specs.LinkWords.{link_words, link_of, stage_in, controls_in, credit_in, marks_in, offer_of}
use Rattle.link.specs.LinkWords.{time_words, time_of, is_link, is_time, FitsOffer, KeepsLinks}
use Rattle.link.specs.LinkWords.{STATE, GOT_NULL, NULL_SENT, DISABLED, START, AUTO, STORED, SENT, TAKEN, PUT}
use Rattle.link.specs.LinkWords.{DISCARDING, OFFERED, CODE}
use Rattle.link.proofs.TableLaws.{state_of_number}

stage_back : (l : Link) → stage_in (link_words l) ≡ l.stage
unfolding stage_in link_words
stage_back l =
    rw (state_of_number l.stage.state, truth_back l.stage.gotnull, truth_back l.stage.nullsent)

controls_back : (l : Link) → controls_in (link_words l) ≡ l.controls
unfolding controls_in link_words
controls_back l =
    rw (truth_back l.controls.disabled, truth_back l.controls.start, truth_back l.controls.auto)

credit_back : (l : Link) → credit_in (link_words l) ≡ l.credit
unfolding credit_in link_words
credit_back l = refl

marks_back : (l : Link) → marks_in (link_words l) ≡ l.marks
unfolding marks_in link_words
marks_back l =
    rw (
      truth_back l.marks.stored,
      truth_back l.marks.sent,
      truth_back l.marks.taken,
      truth_back l.marks.put,
      truth_back l.marks.discarding,
    )

offer_back : (o : Option ℕ) → FitsOffer o → offer_of (offer_number o) (offer_value o) ≡ o
offer_back None h = refl
offer_back (Some v) h = rw (byte_back v h)

link_back : (l : Link) → FitsOffer l.offer → link_of (link_words l) ≡ l
unfolding link_of link_words store_of
link_back l h = rw (stage_back l, controls_back l, credit_back l, marks_back l, offer_back l.offer h)

time_back : (t : Time) → time_of (time_words t) ≡ t
unfolding time_of
time_back t = rw (truth_back t.ticked)

is_link_lem : (l : Link) → FitsOffer l.offer → is_link (link_words l) ≡ true
is_link_lem l h = rw (link_back l h) (same_itself (link_words l))

is_time_lem : (t : Time) → is_time (time_words t) ≡ true
is_time_lem t = rw (time_back t) (same_itself (time_words t))

pub keeps_links : KeepsLinks
keeps_links = record { link = link_back; is_link_lem = is_link_lem; time = time_back; is_time_lem = is_time_lem }

-- words that pass are those of what they mean
pub own_words : (words : List ℕ) → is_link words ≡ true → words ≡ link_words (link_of words)
own_words words p = same_is words (link_words (link_of words)) p

pub own_time : (time : List ℕ) → is_time time ≡ true → time ≡ time_words (time_of time)
own_time time p = same_is time (time_words (time_of time)) p

-- a Time-Code that words mean has eight bits
pub offer_fits : (words : List ℕ) → FitsOffer (link_of words).offer
unfolding link_of
offer_fits words = by (eqb (word_at words OFFERED) 0) (word_at words CODE)
  where
    by : (none : Bool) (code : ℕ) → FitsOffer (pick none None (Some (byte code)))
    by true code = tt
    by false code = omega arith

-- A list is the list of its members.
abbrev listed : (ℕ → ℕ) → ℕ → List ℕ
listed f zero = []
listed f (suc n) = f 0 ∷ listed (λ (i : ℕ). f (suc i)) n

all_listed : (words : List ℕ) → words ≡ listed (word_at words) (length words)
all_listed [] = refl
all_listed (w ∷ words) = ap (λ (ws : List ℕ). w ∷ ws) (all_listed words)

by_members : (words other : List ℕ) (n : ℕ) → length words ≡ n → same words other ≡ same (listed (word_at words) n) other
by_members words other n long =
    ap (λ (ws : List ℕ). same ws other) (all_listed words ∙ ap (λ (k : ℕ). listed (word_at words) k) long)

-- a word that is a number means itself
itself : (w : ℕ) (rest : Bool) → eqb w w && rest ≡ rest
itself w rest = rw (eq-eqb w w refl)

not_both : (a b : Bool) → not (a && b) ≡ not b || not a
not_both true true = refl
not_both true false = refl
not_both false true = refl
not_both false false = refl

-- words that no state, truth or waiting Time-Code has
abbrev pub no_state : ℕ → Bool
no_state w = not (eqb w (state_number (state_of w)))

abbrev pub no_truth : ℕ → Bool
no_truth w = not (eqb w (truth_word (truth w)))

abbrev pub no_offer : ℕ → ℕ → Bool
no_offer n code = not (eqb n (offer_number (offer_of n code)) && eqb code (offer_value (offer_of n code)))

pub no_link : (words : List ℕ) → length words ≡ 20 →
    not (is_link words)
    ≡ no_offer (word_at words OFFERED) (word_at words CODE)
    || no_truth (word_at words DISCARDING)
    || no_truth (word_at words PUT)
    || no_truth (word_at words TAKEN)
    || no_truth (word_at words SENT)
    || no_truth (word_at words STORED)
    || no_truth (word_at words AUTO)
    || no_truth (word_at words START)
    || no_truth (word_at words DISABLED)
    || no_truth (word_at words NULL_SENT)
    || no_truth (word_at words GOT_NULL)
    || no_state (word_at words STATE)
unfolding same link_words link_of stage_in controls_in credit_in marks_in store_of
no_link words long = ap not (by_members words (link_words (link_of words)) 20 long) ∙ simp (itself, and-true, not_both)

pub no_time : (time : List ℕ) → length time ≡ 2 → not (is_time time) ≡ no_truth (word_at time 1)
unfolding same time_of
no_time time long = ap not (by_members time (time_words (time_of time)) 2 long) ∙ simp (itself, and-true)
