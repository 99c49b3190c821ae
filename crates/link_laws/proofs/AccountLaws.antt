-- A store's account over one change, and over two changes one after the other.
-- Assumes nothing.
use mathlib.Core.Path.{◌≡◌, refl, sym, ap, ◌∙◌}
use mathlib.Core.List.{List, [], ◌∷◌, ◌++◌, append_assoc, append-nil}
use Prim.Native.Nat.{ℕ}
use Rattle.link_laws.specs.NothingLost.{Fate, WentOn, ThrownAway, Entry, numbers, goes_on, onward, thrown}
use Rattle.link_laws.specs.NothingLost.{Accounted}

-- some leave from the front, all with one fate
abbrev all_to : Fate → List ℕ → List Entry
all_to fate [] = []
all_to fate (n ∷ ns) = record { nchar = n; fate = fate } ∷ all_to fate ns

all_numbers : (fate : Fate) (ns : List ℕ) → numbers (all_to fate ns) ≡ ns
all_numbers fate [] = refl
all_numbers fate (n ∷ ns) = ap (λ (ms : List ℕ). n ∷ ms) (all_numbers fate ns)

all_onward : (fate : Fate) (ns : List ℕ) → onward (all_to fate ns) ≡ goes_on fate ns []
all_onward WentOn [] = refl
all_onward WentOn (n ∷ ns) = ap (λ (ms : List ℕ). n ∷ ms) (all_onward WentOn ns)
all_onward ThrownAway [] = refl
all_onward ThrownAway (n ∷ ns) = all_onward ThrownAway ns

all_thrown : (fate : Fate) (ns : List ℕ) → thrown (all_to fate ns) ≡ goes_on fate [] ns
all_thrown WentOn [] = refl
all_thrown WentOn (n ∷ ns) = all_thrown WentOn ns
all_thrown ThrownAway [] = refl
all_thrown ThrownAway (n ∷ ns) = ap (λ (ms : List ℕ). n ∷ ms) (all_thrown ThrownAway ns)

numbers_append : (xs ys : List Entry) → numbers (xs ++ ys) ≡ numbers xs ++ numbers ys
numbers_append [] ys = refl
numbers_append (x ∷ xs) ys = ap (λ (ns : List ℕ). x.nchar ∷ ns) (numbers_append xs ys)

onward_append : (xs ys : List Entry) → onward (xs ++ ys) ≡ onward xs ++ onward ys
onward_append [] ys = refl
onward_append (x ∷ xs) ys = go x.fate (onward_append xs ys)
  where
    go : (f : Fate) → onward (xs ++ ys) ≡ onward xs ++ onward ys →
        goes_on f (x.nchar ∷ onward (xs ++ ys)) (onward (xs ++ ys)) ≡ goes_on f (x.nchar ∷ onward xs) (onward xs) ++ onward ys
    go WentOn e = ap (λ (ns : List ℕ). x.nchar ∷ ns) e
    go ThrownAway e = e

thrown_append : (xs ys : List Entry) → thrown (xs ++ ys) ≡ thrown xs ++ thrown ys
thrown_append [] ys = refl
thrown_append (x ∷ xs) ys = go x.fate (thrown_append xs ys)
  where
    go : (f : Fate) → thrown (xs ++ ys) ≡ thrown xs ++ thrown ys →
        goes_on f (thrown (xs ++ ys)) (x.nchar ∷ thrown (xs ++ ys)) ≡ goes_on f (thrown xs) (x.nchar ∷ thrown xs) ++ thrown ys
    go WentOn e = e
    go ThrownAway e = ap (λ (ns : List ℕ). x.nchar ∷ ns) e

-- of one change: what went on stood before what was thrown away
pub account : (went away : List ℕ) {before entered after : List ℕ} → before ++ entered ≡ went ++ (away ++ after) →
    Accounted before entered after went away
account went away {after = after} e =
    let on : List Entry = all_to WentOn went in
    let off : List Entry = all_to ThrownAway away in
    let all : numbers (on ++ off) ≡ went ++ away =
    numbers_append on off ∙ rw (all_numbers WentOn went, all_numbers ThrownAway away) in
    record {
      journal = on ++ off;
      in_order = e ∙ sym (ap (λ (ns : List ℕ). ns ++ after) all ∙ append_assoc went away after);
      went_on = onward_append on off ∙ rw (all_onward WentOn went, all_onward ThrownAway away) (append-nil went);
      thrown_away = thrown_append on off ∙ rw (all_thrown WentOn went, all_thrown ThrownAway away);
    }

-- one change after the other
pub then_account : {before in₁ between on₁ away₁ in₂ after on₂ away₂ : List ℕ} →
    Accounted before in₁ between on₁ away₁ → Accounted between in₂ after on₂ away₂ →
    Accounted before (in₁ ++ in₂) after (on₁ ++ on₂) (away₁ ++ away₂)
then_account {before} {in₁} {between} {in₂ = in₂} {after = after} a b =
    record {
      journal = a.journal ++ b.journal;
      in_order =
          sym (append_assoc before in₁ in₂)
          ∙ ap (λ (ns : List ℕ). ns ++ in₂) a.in_order
          ∙ append_assoc (numbers a.journal) between in₂
          ∙ ap (λ (ns : List ℕ). numbers a.journal ++ ns) b.in_order
          ∙ sym (append_assoc (numbers a.journal) (numbers b.journal) after)
          ∙ ap (λ (ns : List ℕ). ns ++ after) (sym (numbers_append a.journal b.journal));
      went_on = onward_append a.journal b.journal ∙ rw (a.went_on, b.went_on);
      thrown_away = thrown_append a.journal b.journal ∙ rw (a.thrown_away, b.thrown_away);
    }
