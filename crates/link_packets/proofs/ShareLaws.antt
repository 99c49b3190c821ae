-- Shares of what was put: one more of them; and what is discarded "through the first end".
-- Assumes nothing.
use Prim.Native.Nat.{ℕ, ◌+◌}
use mathlib.Core.Path.{◌≡◌, refl, sym, ap, ◌∙◌}
use mathlib.Core.Bool.{Bool, true, false, not}
use mathlib.Core.List.{List, [], ◌∷◌, ◌++◌, append-nil, append_assoc}
use native.Mathlib.Numerals.{one-add}
use native.Mathlib.Omega.{arith}
use borrow.Author.Tests.{not-true}
use lib.ListN.{length, take}
use lib.Seq.{take-length}
use Rattle.vocabulary.specs.Choice.{pick}
use Rattle.vocabulary.specs.NChars.{is_end}
use Rattle.store.specs.Packets.{through_end, holds_end}
use Rattle.store.proofs.OrLaws.{or_left, or_right}
use Rattle.link_laws.specs.NothingLost.{ends_in_data}
use Rattle.link_packets.specs.Packets.{Share, sent_of, put_of, Each}

-- one more share

pub sent_behind : (ss : List Share) (s : Share) → sent_of (ss ++ s ∷ []) ≡ sent_of ss ++ s.sent ∷ []
sent_behind [] s = refl
sent_behind (r ∷ ss) s = ap (λ (cs : List (List ℕ)). r.sent ∷ cs) (sent_behind ss s)

pub put_behind : (ss : List Share) (s : Share) → put_of (ss ++ s ∷ []) ≡ put_of ss ++ s.skipped ++ s.sent
put_behind [] s = append-nil (s.skipped ++ s.sent)
put_behind (r ∷ ss) s =
    ap (λ (ns : List ℕ). r.skipped ++ r.sent ++ ns) (put_behind ss s)
    ∙ ap (λ (ns : List ℕ). r.skipped ++ r.sent ++ ns) (append_assoc (put_of ss) s.skipped s.sent)
    ∙ sym (append_assoc (r.skipped ++ r.sent) (put_of ss) (s.skipped ++ s.sent))
    ∙ sym (append_assoc (r.skipped ++ r.sent ++ put_of ss) s.skipped s.sent)

pub each_behind : (P : List ℕ → Share → Type 0) (before : List ℕ) (ss : List Share) (s : Share) →
    Each P before ss → P (before ++ put_of ss) s → Each P before (ss ++ s ∷ [])
each_behind P before [] s all this = (rw (append-nil before) at this, tt)
each_behind P before (r ∷ ss) s all this =
    let same : before ++ put_of (r ∷ ss) ≡ before ++ r.skipped ++ r.sent ++ put_of ss =
    ap (λ (ns : List ℕ). before ++ ns) (append_assoc r.skipped r.sent (put_of ss))
    ∙ sym (append_assoc before r.skipped (r.sent ++ put_of ss))
    ∙ sym (append_assoc (before ++ r.skipped) r.sent (put_of ss)) in
    (all.0, each_behind P (before ++ r.skipped ++ r.sent) ss s all.1 (rw same at this))

-- from the front through the first end: data follows data until there

pub through_ends : (ns : List ℕ) → ends_in_data (take (through_end ns) ns) true ≡ not (holds_end ns)
unfolding through_end holds_end
through_ends [] = refl
through_ends (n ∷ ns) = go (is_end n) refl (through_ends ns)
  where
    go : (b : Bool) → is_end n ≡ b → ends_in_data (take (through_end ns) ns) true ≡ not (holds_end ns) →
        ends_in_data (take (through_end (n ∷ ns)) (n ∷ ns)) true ≡ not (holds_end (n ∷ ns))
    go true h rest = rw (h, h)
    go false h rest =
        rw (h, one-add (through_end ns)) (ap (λ (b : Bool). ends_in_data (take (through_end ns) ns) (not b)) h ∙ rest)

pub through_again : (ns : List ℕ) →
    take (through_end ns) ns ≡ take (through_end (take (through_end ns) ns)) (take (through_end ns) ns)
unfolding through_end
through_again [] = refl
through_again (n ∷ ns) = go (is_end n) refl (through_again ns)
  where
    go : (b : Bool) → is_end n ≡ b →
        take (through_end ns) ns ≡ take (through_end (take (through_end ns) ns)) (take (through_end ns) ns) →
        take (through_end (n ∷ ns)) (n ∷ ns)
        ≡ take (through_end (take (through_end (n ∷ ns)) (n ∷ ns))) (take (through_end (n ∷ ns)) (n ∷ ns))
    go true h rest = rw (h, h)
    go false h rest =
        rw (h, one-add (through_end ns), h, one-add (through_end (take (through_end ns) ns)))
        (ap (λ (ms : List ℕ). n ∷ ms) rest)

-- one more behind data alone

alone_behind : (ns : List ℕ) (n : ℕ) → holds_end ns ≡ false → through_end (ns ++ n ∷ []) ≡ length (ns ++ n ∷ [])
unfolding through_end holds_end
alone_behind [] n h = go (is_end n)
  where
    go : (b : Bool) → pick b 1 (1 + 0) ≡ 1
    go true = refl
    go false = refl
alone_behind (m ∷ ns) n h =
    rw (or_left (is_end m) (holds_end ns) h) (omega (arith, alone_behind ns n (or_right (is_end m) (holds_end ns) h)))

pub through_longer : (ns : List ℕ) (n : ℕ) → ns ≡ take (through_end ns) ns → ends_in_data ns true ≡ true →
    ns ++ n ∷ [] ≡ take (through_end (ns ++ n ∷ [])) (ns ++ n ∷ [])
through_longer ns n rest open' =
    let none : holds_end ns ≡ false =
    not-true (holds_end ns) (sym (through_ends ns) ∙ ap (λ (ms : List ℕ). ends_in_data ms true) (sym rest) ∙ open') in
    sym (take-length (ns ++ n ∷ []))
    ∙ ap (λ (k : ℕ). take k (ns ++ n ∷ [])) (sym (alone_behind ns n none))
