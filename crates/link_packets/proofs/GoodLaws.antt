-- Packets under an EOP in one list behind another: where the first leaves none unfinished they are those of both.
-- Assumes nothing.
use Prim.Native.Nat.{ℕ}
use mathlib.Core.Path.{◌≡◌, refl, sym, ap, subst, ◌∙◌}
use mathlib.Core.Bool.{Bool, true, false, not, true≢false}
use mathlib.Core.List.{List, [], ◌∷◌, ◌++◌, append-nil, append_assoc}
use mathlib.Core.List.Sublistᴰ
use mathlib.Core.List.{Sublistᴰ}
use lib.Dec.{eqb}
use Rattle.vocabulary.specs.Choice.{pick}
use Rattle.vocabulary.specs.NChars.{EOP, is_end}
use Rattle.link_laws.specs.NothingLost.{ends_in_data, eep_if}
use Rattle.link_packets.specs.Packets.{unfinished, closed, each_closed, Part, received_of, kept_of, Share, sent_of, put_of, Each}
use Rattle.link_packets.specs.Packets.{AtBeginning}
use Rattle.link_packets.specs.GoodPackets.{good_from, good, good_in_each, Delivered, nothing, unheard, silent}
use Rattle.link_packets.specs.GoodPackets.{beginning}
use Rattle.link_packets.proofs.ReadLaws.{closed_finished}

-- what stands behind the last end
abbrev rest_from : List ℕ → List ℕ → List ℕ
rest_from begun [] = begun
rest_from begun (n ∷ ns) = pick (is_end n) (rest_from [] ns) (rest_from (begun ++ n ∷ []) ns)

rest_behind : (begun ns more : List ℕ) → rest_from begun (ns ++ more) ≡ rest_from (rest_from begun ns) more
rest_behind begun [] more = refl
rest_behind begun (n ∷ ns) more = go (is_end n) (rest_behind [] ns more) (rest_behind (begun ++ n ∷ []) ns more)
  where
    go : (b : Bool) → rest_from [] (ns ++ more) ≡ rest_from (rest_from [] ns) more →
        rest_from (begun ++ n ∷ []) (ns ++ more) ≡ rest_from (rest_from (begun ++ n ∷ []) ns) more →
        pick b (rest_from [] (ns ++ more)) (rest_from (begun ++ n ∷ []) (ns ++ more))
        ≡ rest_from (pick b (rest_from [] ns) (rest_from (begun ++ n ∷ []) ns)) more
    go true this that = this
    go false this that = that

-- none where the last is an end
finished_none : (begun ns : List ℕ) (b : Bool) → (b ≡ false → begun ≡ []) → ends_in_data ns b ≡ false → rest_from begun ns ≡ []
finished_none begun [] b none h = none h
finished_none begun (n ∷ ns) b none h =
    go (is_end n) (finished_none [] ns false (λ k. refl))
    (finished_none (begun ++ n ∷ []) ns true (λ k. absurd (true≢false k))) h
  where
    go : (c : Bool) → (ends_in_data ns false ≡ false → rest_from [] ns ≡ []) →
        (ends_in_data ns true ≡ false → rest_from (begun ++ n ∷ []) ns ≡ []) → ends_in_data ns (not c) ≡ false →
        pick c (rest_from [] ns) (rest_from (begun ++ n ∷ []) ns) ≡ []
    go true this that h = this h
    go false this that h = that h

good_behind : (begun ns more : List ℕ) →
    good_from begun (ns ++ more) ≡ good_from begun ns ++ good_from (rest_from begun ns) more
good_behind begun [] more = refl
good_behind begun (n ∷ ns) more =
    go (is_end n) (eqb n EOP) (good_behind [] ns more) (good_behind (begun ++ n ∷ []) ns more)
  where
    go : (c k : Bool) → good_from [] (ns ++ more) ≡ good_from [] ns ++ good_from (rest_from [] ns) more →
        good_from (begun ++ n ∷ []) (ns ++ more)
        ≡ good_from (begun ++ n ∷ []) ns ++ good_from (rest_from (begun ++ n ∷ []) ns) more →
        pick c (pick k (begun ∷ good_from [] (ns ++ more)) (good_from [] (ns ++ more))) (good_from (begun ++ n ∷ []) (ns ++ more))
        ≡ pick c (pick k (begun ∷ good_from [] ns) (good_from [] ns)) (good_from (begun ++ n ∷ []) ns)
        ++ good_from (pick c (rest_from [] ns) (rest_from (begun ++ n ∷ []) ns)) more
    go true true this that = ap (λ (ps : List (List ℕ)). begun ∷ ps) this
    go true false this that = this
    go false k this that = that

good_finished : (ns more : List ℕ) → unfinished ns ≡ false → good (ns ++ more) ≡ good ns ++ good more
good_finished ns more h =
    good_behind [] ns more ∙ ap (λ (rest : List ℕ). good ns ++ good_from rest more) (finished_none [] ns false (λ k. refl) h)

-- an EEP closes no good packet
good_closed : (ns : List ℕ) → good (closed ns) ≡ good ns
good_closed ns = good_behind [] ns (eep_if (unfinished ns)) ∙ go (unfinished ns)
  where
    go : (b : Bool) → good ns ++ good_from (rest_from [] ns) (eep_if b) ≡ good ns
    go true = append-nil (good ns)
    go false = append-nil (good ns)

pub good_each : (nss : List (List ℕ)) (ns : List ℕ) → good (each_closed nss ++ ns) ≡ good_in_each (nss ++ ns ∷ [])
good_each [] ns = sym (append-nil (good ns))
good_each (ms ∷ nss) ns =
    ap good (append_assoc (closed ms) (each_closed nss) ns)
    ∙ good_finished (closed ms) (each_closed nss ++ ns) (closed_finished ms)
    ∙ ap (λ (ps : List (List ℕ)). ps ++ good (each_closed nss ++ ns)) (good_closed ms)
    ∙ ap (λ (ps : List (List ℕ)). good ms ++ ps) (good_each nss ns)

-- the beginning of a list has some of its packets

first_some : (ps qs : List (List ℕ)) → Sublistᴰ ps (ps ++ qs)
first_some ps qs =
    subst (λ (these : List (List ℕ)). Sublistᴰ these (ps ++ qs)) (append-nil ps)
    (Sublistᴰ.append (Sublistᴰ.refl ps) (Sublistᴰ.nil-sublist qs))

good_begins : (ns rest : List ℕ) → Sublistᴰ (good ns) (good (ns ++ rest))
good_begins ns rest =
    subst (Sublistᴰ (good ns)) (sym (good_behind [] ns rest)) (first_some (good ns) (good_from (rest_from [] ns) rest))

pub good_kept : (ps : List Part) (ns : List ℕ) → Sublistᴰ (good_in_each (kept_of ps ++ ns ∷ [])) (good_in_each (received_of ps ++ ns ∷ []))
good_kept [] ns = Sublistᴰ.refl (good_in_each (ns ∷ []))
good_kept (p ∷ ps) ns = Sublistᴰ.append (good_begins p.kept p.lost) (good_kept ps ns)

pub good_delivered : {sent heard : List (List ℕ)} → Delivered sent heard → Sublistᴰ (good_in_each heard) (good_in_each sent)
good_delivered nothing = Sublistᴰ.slnil
good_delivered (unheard ns d) = Sublistᴰ.append (Sublistᴰ.nil-sublist (good ns)) (good_delivered d)
good_delivered (silent d) = good_delivered d
good_delivered (beginning ns rest d) = Sublistᴰ.append (good_begins ns rest) (good_delivered d)

-- What is sent from the beginnings of packets has some of the packets that were put.
pub good_shares : (before : List ℕ) (ss : List Share) (waits : List ℕ) → Each AtBeginning before ss →
    Sublistᴰ (good_in_each (sent_of ss)) (good_from (rest_from [] before) (put_of ss ++ waits))
good_shares before [] waits all = Sublistᴰ.nil-sublist (good_from (rest_from [] before) waits)
good_shares before (s ∷ ss) waits all =
    subst (Sublistᴰ (good s.sent ++ good_in_each (sent_of ss))) (sym put)
    (Sublistᴰ.append (Sublistᴰ.nil-sublist (good_from begun s.skipped))
    (Sublistᴰ.append (sent_some (unfinished (before ++ s.skipped)) refl)
    (good_shares (before ++ s.skipped ++ s.sent) ss waits all.1)))
  where
    begun : List ℕ
    begun = rest_from [] before

    after : List ℕ
    after = rest_from begun s.skipped

    is_after : after ≡ rest_from [] (before ++ s.skipped)
    is_after = sym (rest_behind [] before s.skipped)

    sent_some : (b : Bool) → unfinished (before ++ s.skipped) ≡ b → Sublistᴰ (good s.sent) (good_from after s.sent)
    sent_some true h =
        subst (λ (ns : List ℕ). Sublistᴰ (good ns) (good_from after ns)) (sym (all.0 h)) Sublistᴰ.slnil
    sent_some false h =
        subst (λ (ns : List ℕ). Sublistᴰ (good s.sent) (good_from ns s.sent))
        (sym (is_after ∙ finished_none [] (before ++ s.skipped) false (λ k. refl) h)) (Sublistᴰ.refl (good s.sent))

    put : good_from begun (put_of (s ∷ ss) ++ waits)
        ≡ good_from begun s.skipped
        ++ (good_from after s.sent ++ good_from (rest_from [] (before ++ s.skipped ++ s.sent)) (put_of ss ++ waits))
    put =
        ap (good_from begun)
        (append_assoc (s.skipped ++ s.sent) (put_of ss) waits ∙ append_assoc s.skipped s.sent (put_of ss ++ waits))
        ∙ good_behind begun s.skipped (s.sent ++ (put_of ss ++ waits))
        ∙ ap (λ (ps : List (List ℕ)). good_from begun s.skipped ++ ps)
        (good_behind after s.sent (put_of ss ++ waits)
        ∙ ap (λ (ns : List ℕ). good_from after s.sent ++ good_from ns (put_of ss ++ waits))
        (ap (λ (ns : List ℕ). rest_from ns s.sent) is_after ∙ sym (rest_behind [] (before ++ s.skipped) s.sent)))
