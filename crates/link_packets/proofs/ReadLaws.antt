-- What is read of stretches that are over: one more of them, and what a reset leaves, which is what was taken, closed.
-- Assumes nothing.
use Prim.Native.Nat.{ℕ}
use mathlib.Core.Path.{◌≡◌, refl, sym, ap, ◌∙◌}
use mathlib.Core.Bool.{Bool, true, false}
use mathlib.Core.List.{List, [], ◌∷◌, ◌++◌, append-nil, append_assoc, cons-ne-nil}
use lib.ListN.{get_or, drop}
use Rattle.vocabulary.specs.NChars.{EEP}
use Rattle.link_laws.specs.NothingLost.{ends_in_data, eep_if}
use Rattle.link_packets.specs.Packets.{unfinished, closed, each_closed, Part, received_of, kept_of}

-- an unfinished packet, and a closed one

pub ends_behind : (ns more : List ℕ) (before : Bool) → ends_in_data (ns ++ more) before ≡ ends_in_data more (ends_in_data ns before)
ends_behind [] more before = refl
ends_behind (n ∷ ns) more before = ends_behind ns more _

pub closed_finished : (ns : List ℕ) → unfinished (closed ns) ≡ false
closed_finished ns = ends_behind ns (eep_if (unfinished ns)) false ∙ go (unfinished ns)
  where
    go : (b : Bool) → ends_in_data (eep_if b) b ≡ false
    go true = refl
    go false = refl

finished_closed : (ns : List ℕ) → unfinished ns ≡ false → closed ns ≡ ns
finished_closed ns h = rw h (append-nil ns)

closed_behind : (ns more : List ℕ) → unfinished ns ≡ false → closed (ns ++ more) ≡ ns ++ closed more
closed_behind ns more h = rw (ends_behind ns more false, h) (append_assoc ns more (eep_if (unfinished more)))

-- what is read of the parts of stretches
abbrev pub read_of : List Part → List ℕ
read_of ps = each_closed (kept_of ps)

-- one more stretch is over

pub each_behind : (nss : List (List ℕ)) (ns : List ℕ) → each_closed (nss ++ ns ∷ []) ≡ each_closed nss ++ closed ns
each_behind [] ns = append-nil (closed ns)
each_behind (ms ∷ nss) ns =
    ap (λ (ls : List ℕ). closed ms ++ ls) (each_behind nss ns) ∙ sym (append_assoc (closed ms) (each_closed nss) (closed ns))

held_behind : (ps : List Part) (p : Part) → kept_of (ps ++ p ∷ []) ≡ kept_of ps ++ p.kept ∷ []
held_behind [] p = refl
held_behind (q ∷ ps) p = ap (λ (hs : List (List ℕ)). q.kept ∷ hs) (held_behind ps p)

pub received_behind : (ps : List Part) (p : Part) → received_of (ps ++ p ∷ []) ≡ received_of ps ++ (p.kept ++ p.lost) ∷ []
received_behind [] p = refl
received_behind (q ∷ ps) p = ap (λ (hs : List (List ℕ)). (q.kept ++ q.lost) ∷ hs) (received_behind ps p)

pub read_behind : (ps : List Part) (p : Part) → read_of (ps ++ p ∷ []) ≡ read_of ps ++ closed p.kept
read_behind ps p = ap each_closed (held_behind ps p) ∙ each_behind (kept_of ps) p.kept

-- all is lost

abbrev all_lost : List Part → List Part
all_lost [] = []
all_lost (p ∷ ps) = record { kept = []; lost = p.kept ++ p.lost } ∷ all_lost ps

lost_received : (ps : List Part) → received_of (all_lost ps) ≡ received_of ps
lost_received [] = refl
lost_received (p ∷ ps) = ap (λ (hs : List (List ℕ)). (p.kept ++ p.lost) ∷ hs) (lost_received ps)

lost_unread : (ps : List Part) → read_of (all_lost ps) ≡ []
lost_unread [] = refl
lost_unread (p ∷ ps) = lost_unread ps

-- Two ways to cut one list in two: the first cut is within the other's first part, or beyond it.
data Cuts (a b c d : List ℕ) : Type 0 where
  within : (rest : List ℕ) → c ≡ a ++ rest → Cuts a b c d
  beyond : (more : List ℕ) → a ≡ c ++ more → more ++ b ≡ d → Cuts a b c d

cuts : (a b c d : List ℕ) → a ++ b ≡ c ++ d → Cuts a b c d
cuts [] b c d h = within c refl
cuts (n ∷ a) b [] d h = beyond (n ∷ a) refl h
cuts (n ∷ a) b (m ∷ c) d h = go (cuts a b c d (ap (drop 1) h))
  where
    same : n ≡ m
    same = ap (λ (ns : List ℕ). get_or ns 0 0) h

    go : Cuts a b c d → Cuts (n ∷ a) b (m ∷ c) d
    go (within rest k) = within rest (rw (k, same))
    go (beyond more k l) = beyond more (rw (k, same)) l

-- What was taken of what is read, closed, is read of the same stretches with the rest lost.
pub record Closes (ps : List Part) (taken : List ℕ) : Type 0 where
  pub parts : List Part
  pub as_received : received_of parts ≡ received_of ps
  pub as_read : closed taken ≡ read_of parts

-- taken within the first: as much of it as was received is kept
within_first : (p : Part) (ps : List Part) (taken rest : List ℕ) → closed p.kept ≡ taken ++ rest → Closes (p ∷ ps) taken
within_first p ps taken rest h = go (cuts taken rest p.kept (eep_if (unfinished p.kept)) (sym h))
  where
    whole : closed taken ≡ closed p.kept → Closes (p ∷ ps) taken
    whole same =
        record {
          parts = p ∷ all_lost ps;
          as_received = ap (λ (hs : List (List ℕ)). (p.kept ++ p.lost) ∷ hs) (lost_received ps);
          as_read = same ∙ sym (rw (lost_unread ps) (append-nil (closed p.kept)));
        }

    -- it is taken whole, with or without the EEP that closes it
    eep_too : (b : Bool) (more : List ℕ) → unfinished p.kept ≡ b → more ++ rest ≡ eep_if b → taken ≡ p.kept ++ more →
        Closes (p ∷ ps) taken
    eep_too b [] u l k = whole (ap closed (k ∙ append-nil p.kept))
    eep_too true (n ∷ []) u l k =
        let eep : n ≡ EEP = ap (λ (ns : List ℕ). get_or ns 0 0) l in
        let all : taken ≡ closed p.kept = k ∙ rw (eep, u) in
        whole (ap closed all ∙ finished_closed (closed p.kept) (closed_finished p.kept))
    eep_too true (n ∷ m ∷ more) u l k = absurd (cons-ne-nil m _ (ap (drop 1) l))
    eep_too false (n ∷ more) u l k = absurd (cons-ne-nil n _ l)

    go : Cuts taken rest p.kept (eep_if (unfinished p.kept)) → Closes (p ∷ ps) taken
    go (within left k) =
        record {
          parts = record { kept = taken; lost = left ++ p.lost } ∷ all_lost ps;
          as_received = rw (k, lost_received ps, append_assoc taken left p.lost);
          as_read = sym (rw (lost_unread ps) (append-nil (closed taken)));
        }
    go (beyond more k l) = eep_too (unfinished p.kept) more refl l k

pub closes : (ps : List Part) (taken rest : List ℕ) → taken ++ rest ≡ read_of ps → Closes ps taken
closes [] [] rest h = record { parts = []; as_received = refl; as_read = refl }
closes [] (n ∷ taken) rest h = absurd (cons-ne-nil n _ h)
closes (p ∷ ps) taken rest h = go (λ more. closes ps more rest) (cuts taken rest (closed p.kept) (read_of ps) h)
  where
    go : ((more : List ℕ) → more ++ rest ≡ read_of ps → Closes ps more) → Cuts taken rest (closed p.kept) (read_of ps) →
        Closes (p ∷ ps) taken
    go others (within left k) = within_first p ps taken left k
    go others (beyond more k l) =
        let later : Closes ps more = others more l in
        record {
          parts = p ∷ later.parts;
          as_received = ap (λ (hs : List (List ℕ)). (p.kept ++ p.lost) ∷ hs) later.as_received;
          as_read =
              ap closed k ∙ closed_behind (closed p.kept) more (closed_finished p.kept)
              ∙ ap (λ (ns : List ℕ). closed p.kept ++ ns) later.as_read;
        }
