-- From the front of a list through its first end: data and that end, or all of it where it holds none.
-- Assumes nothing.
use mathlib.Core.Path.{◌≡◌, refl, ap}
use mathlib.Core.Bool.{Bool, true, false, false≢true}
use mathlib.Core.List.Memᴰ
use mathlib.Core.List.{List, [], ◌∷◌, ◌++◌, Memᴰ}
use mathlib.Core.Logic.{⊎_elim}
use Prim.Native.Nat.{ℕ, suc, ◌+◌, ◌≤◌}
use native.Mathlib.Numerals.{one-add}
use native.Mathlib.Omega.{arith}
use lib.ListN.{length, take}
use Rattle.vocabulary.specs.Choice.{pick}
use Rattle.vocabulary.specs.NChars.{is_end}
use Rattle.store.specs.Packets.{through_end, holds_end}
use Rattle.store.proofs.OrLaws.{or_left, or_right}

pub through_within : (ns : List ℕ) → through_end ns ≤ length ns
unfolding through_end
through_within [] = omega arith
through_within (n ∷ ns) = go (is_end n) (through_within ns)
  where
    go : (b : Bool) → through_end ns ≤ length ns → pick b 1 (1 + through_end ns) ≤ suc (length ns)
    go true h = omega arith
    go false h = omega arith

-- where no end is held

pub no_end_all : (ns : List ℕ) → holds_end ns ≡ false → through_end ns ≡ length ns
unfolding through_end holds_end
no_end_all [] h = refl
no_end_all (n ∷ ns) h =
    rw (or_left (is_end n) (holds_end ns) h) (omega (arith, no_end_all ns (or_right (is_end n) (holds_end ns) h)))

pub no_end_data : (ns : List ℕ) → holds_end ns ≡ false → (n : ℕ) → Memᴰ n ns → is_end n ≡ false
unfolding holds_end
no_end_data [] h n m = absurd (Memᴰ.not-nil m)
no_end_data (x ∷ ns) h n m =
    ⊎_elim (λ e. rw e (or_left (is_end x) (holds_end ns) h))
    (no_end_data ns (or_right (is_end x) (holds_end ns) h) n)
    (Memᴰ.cases_cons m)

-- where one is: data and then that end
pub record Packet (ns : List ℕ) : Type 0 where
  pub cargo : List ℕ
  pub end : ℕ
  pub whole : ns ≡ cargo ++ end ∷ []
  pub unended : holds_end cargo ≡ false
  pub ended : is_end end ≡ true

alone : (n : ℕ) → is_end n ≡ true → Packet (n ∷ [])
unfolding holds_end
alone n e = record { cargo = []; end = n; whole = refl; unended = refl; ended = e }

behind : (n : ℕ) (ns : List ℕ) → is_end n ≡ false → Packet ns → Packet (n ∷ ns)
unfolding holds_end
behind n ns e p =
    record {
      cargo = n ∷ p.cargo;
      end = p.end;
      whole = ap (λ (ms : List ℕ). n ∷ ms) p.whole;
      unended = rw e p.unended;
      ended = p.ended;
    }

pub first_packet : (ns : List ℕ) → holds_end ns ≡ true → Packet (take (through_end ns) ns)
unfolding through_end holds_end
first_packet [] h = absurd (false≢true h)
first_packet (n ∷ ns) h = go (is_end n) refl (first_packet ns)
  where
    go : (b : Bool) → is_end n ≡ b → (holds_end ns ≡ true → Packet (take (through_end ns) ns)) →
        Packet (take (through_end (n ∷ ns)) (n ∷ ns))
    go true e rest = rw e (alone n e)
    go false e rest = rw (e, one-add (through_end ns)) (behind n (take (through_end ns) ns) e (rest (rw e at h)))
