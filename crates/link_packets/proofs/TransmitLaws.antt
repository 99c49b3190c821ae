-- What holds of the transmit store at every moment, over each thing that can happen to it: the host puts one, which is
-- stored or discarded, some are sent, the stretch ends, all is reset.
-- Assumes nothing.
use Prim.Native.Nat.{ℕ}
use mathlib.Core.Path.{◌≡◌, refl, sym, ap, subst, ◌∙◌}
use mathlib.Core.Bool.{Bool, true, false, not, ◌||◌, ◌&&◌, or-true, true≢false, false≢true}
use mathlib.Core.List.{List, [], ◌∷◌, ◌++◌, append-nil, append_assoc, append_cancel_left, append-eq-nil_iff}
use borrow.Author.Tests.{not-true}
use lib.ListN.{take}
use lib.Seq.{take-length}
use Rattle.vocabulary.specs.Choice.{pick}
use Rattle.vocabulary.specs.NChars.{is_end}
use Rattle.store.specs.Packets.{through_end, holds_end}
use Rattle.store.proofs.PacketLaws.{no_end_all}
use Rattle.link_laws.specs.NothingLost.{ends_in_data}
use Rattle.link_packets.specs.Stretches.{Stretches, carrying, ending}
use Rattle.link_packets.specs.Packets.{unfinished, Share, sent_of, put_of, Each, AtBeginning, OnlyRest}
use Rattle.link_packets.proofs.ReadLaws.{ends_behind}
use Rattle.link_packets.proofs.ShareLaws.{sent_behind, put_behind, each_behind, through_ends, through_again}
use Rattle.link_packets.proofs.ShareLaws.{through_longer}

-- of the present stretch
abbrev share : List ℕ → List ℕ → Share
share skipped sent = record { skipped = skipped; sent = sent }

-- of the stretches, of what was put and what waits, and of the marks of the last sent, the last put and of discarding
pub record Transmits (reset : Bool) (s : Stretches) (put waits : List ℕ) (sent last discarding : Bool) : Type 0 where
  pub shares : List Share
  pub skipped : List ℕ
  pub as_sent : sent_of shares ≡ s.over
  pub as_put : put ≡ put_of shares ++ skipped ++ s.present ++ waits
  pub at_beginnings : Each AtBeginning [] shares
  pub last_sent : sent ≡ unfinished s.present
  pub last_put : last ≡ unfinished put
  pub discards : discarding ≡ unfinished (put_of shares ++ skipped)
  pub none_since : discarding ≡ true → s.present ++ waits ≡ []
  pub only_rests : reset ≡ false → Each OnlyRest [] shares
  pub only_rest : reset ≡ false → OnlyRest (put_of shares) (share skipped s.present)

front_none : (ns more : List ℕ) → ns ++ more ≡ [] → ns ≡ []
front_none ns more h = (append-eq-nil_iff.0 h).0

back_none : (ns more : List ℕ) → ns ++ more ≡ [] → more ≡ []
back_none ns more h = ((append-eq-nil_iff {p = ns}).0 h).1

nothing_skipped : (b : Bool) → ◌≡◌ {A = List ℕ} [] (pick b (take (through_end []) []) [])
unfolding through_end
nothing_skipped true = refl
nothing_skipped false = refl

pub transmitted_more : {reset : Bool} {s : Stretches} {put waits : List ℕ} {sent last discarding : Bool} (ns : List ℕ) →
    Transmits reset s put (ns ++ waits) sent last discarding →
    Transmits reset (carrying s ns) put waits (ends_in_data ns sent) last discarding
transmitted_more {s = s} {waits = waits} ns t =
    record {
      shares = t.shares;
      skipped = t.skipped;
      as_sent = t.as_sent;
      as_put =
          t.as_put
          ∙ sym (append_assoc (put_of t.shares ++ t.skipped ++ s.present) ns waits)
          ∙ ap (λ (ms : List ℕ). ms ++ waits) (append_assoc (put_of t.shares ++ t.skipped) s.present ns);
      at_beginnings = t.at_beginnings;
      last_sent = ap (ends_in_data ns) t.last_sent ∙ sym (ends_behind s.present ns false);
      last_put = t.last_put;
      discards = t.discards;
      none_since = λ h. append_assoc s.present ns waits ∙ t.none_since h;
      only_rests = t.only_rests;
      only_rest = t.only_rest;
    }

-- the host puts one

pub put_stored_lem : {reset : Bool} {s : Stretches} {put waits : List ℕ} {sent last : Bool} (n : ℕ) →
    Transmits reset s put waits sent last false → Transmits reset s (put ++ n ∷ []) (waits ++ n ∷ []) sent (not (is_end n)) false
put_stored_lem {s = s} {put = put} {waits = waits} n t =
    record {
      shares = t.shares;
      skipped = t.skipped;
      as_sent = t.as_sent;
      as_put =
          ap (λ (ms : List ℕ). ms ++ n ∷ []) t.as_put
          ∙ append_assoc (put_of t.shares ++ t.skipped ++ s.present) waits (n ∷ []);
      at_beginnings = t.at_beginnings;
      last_sent = t.last_sent;
      last_put = sym (ends_behind put (n ∷ []) false);
      discards = t.discards;
      none_since = λ h. absurd (false≢true h);
      only_rests = t.only_rests;
      only_rest = t.only_rest;
    }

pub put_discarded_lem : {reset : Bool} {s : Stretches} {put waits : List ℕ} {sent last : Bool} (n : ℕ) →
    Transmits reset s put waits sent last true →
    Transmits reset s (put ++ n ∷ []) waits sent (not (is_end n)) (not (is_end n))
put_discarded_lem {s = s} {put = put} {waits = waits} n t =
    record {
      shares = t.shares;
      skipped = t.skipped ++ n ∷ [];
      as_sent = t.as_sent;
      as_put =
          ap (λ (ms : List ℕ). ms ++ n ∷ []) (t.as_put ∙ none_behind before)
          ∙ append_assoc (put_of t.shares) t.skipped (n ∷ [])
          ∙ sym (none_behind (put_of t.shares ++ (t.skipped ++ n ∷ [])));
      at_beginnings = t.at_beginnings;
      last_sent = t.last_sent;
      last_put = sym (ends_behind put (n ∷ []) false);
      discards =
          sym (ends_behind before (n ∷ []) false) ∙ ap unfinished (append_assoc (put_of t.shares) t.skipped (n ∷ []));
      none_since = λ h. t.none_since refl;
      only_rests = t.only_rests;
      only_rest = λ none. rest (unfinished (put_of t.shares)) refl (t.only_rest none);
    }
  where
    before : List ℕ
    before = put_of t.shares ++ t.skipped

    none_behind : (ns : List ℕ) → ns ++ s.present ++ waits ≡ ns
    none_behind ns =
        append_assoc ns s.present waits ∙ ap (λ (ms : List ℕ). ns ++ ms) (t.none_since refl) ∙ append-nil ns

    -- nothing is skipped where nothing was unfinished; then nothing is discarded
    rest : (b : Bool) → unfinished (put_of t.shares) ≡ b →
        t.skipped ≡ pick b (take (through_end t.skipped) t.skipped) [] →
        t.skipped ++ n ∷ [] ≡ pick b (take (through_end (t.skipped ++ n ∷ [])) (t.skipped ++ n ∷ [])) []
    rest true h k =
        through_longer t.skipped n k
        (ap (ends_in_data t.skipped) (sym h) ∙ sym (ends_behind (put_of t.shares) t.skipped false) ∙ sym t.discards)
    rest false h k =
        absurd
        (true≢false
        (t.discards
        ∙ ends_behind (put_of t.shares) t.skipped false
        ∙ ap (λ (ms : List ℕ). ends_in_data ms (unfinished (put_of t.shares))) k
        ∙ h))

-- the stretch ends, with its share of what was put

module _ {reset : Bool} {s : Stretches} {put waits : List ℕ} {sent last discarding : Bool}
    (t : Transmits reset s put waits sent last discarding) where
  abbrev this : Share
  this = share t.skipped s.present

  abbrev pub shares_then : List Share
  shares_then = t.shares ++ this ∷ []

  pub then_sent : sent_of shares_then ≡ s.over ++ s.present ∷ []
  then_sent = sent_behind t.shares this ∙ ap (λ (cs : List (List ℕ)). cs ++ s.present ∷ []) t.as_sent

  pub then_put : put ≡ put_of shares_then ++ waits
  then_put = t.as_put ∙ ap (λ (ns : List ℕ). ns ++ waits) (sym (put_behind t.shares this))

  pub then_beginnings : Each AtBeginning [] shares_then
  then_beginnings =
      each_behind AtBeginning [] t.shares this t.at_beginnings λ h.
      front_none s.present waits (t.none_since (t.discards ∙ h))

  pub then_rests : reset ≡ false → Each OnlyRest [] shares_then
  then_rests none = each_behind OnlyRest [] t.shares this (t.only_rests none) (t.only_rest none)

  then_unfinished : unfinished (put_of shares_then) ≡ ends_in_data s.present discarding
  then_unfinished =
      ap unfinished (put_behind t.shares this)
      ∙ ends_behind (put_of t.shares ++ t.skipped) s.present false
      ∙ ap (ends_in_data s.present) (sym t.discards)

  -- where puts are discarded nothing was sent
  sent_or_not : (b : Bool) → discarding ≡ b → ends_in_data s.present b ≡ b || sent
  sent_or_not true h = ap (λ (ns : List ℕ). ends_in_data ns true) (front_none s.present waits (t.none_since h))
  sent_or_not false h = sym t.last_sent

  pub transmitted_reset : Transmits true (ending s) put [] false last last
  transmitted_reset =
      record {
        shares = shares_then;
        skipped = waits;
        as_sent = then_sent;
        as_put = then_put ∙ sym (append-nil (put_of shares_then ++ waits ++ []) ∙ append-nil (put_of shares_then ++ waits));
        at_beginnings = then_beginnings;
        last_sent = refl;
        last_put = t.last_put;
        discards = t.last_put ∙ ap unfinished then_put;
        none_since = λ h. refl;
        only_rests = λ none. absurd (true≢false none);
        only_rest = λ none. absurd (true≢false none);
      }

  pub transmitted_end : (waits' : List ℕ) (away : List ℕ) → waits ≡ away ++ waits' →
      away ≡ pick sent (take (through_end waits) waits) [] →
      Transmits reset (ending s) put waits' false last (discarding || sent && not (holds_end waits))
  transmitted_end waits' away split is =
      record {
        shares = shares_then;
        skipped = away;
        as_sent = then_sent;
        as_put =
            then_put
            ∙ ap (λ (ns : List ℕ). put_of shares_then ++ ns) split
            ∙ sym (append_assoc (put_of shares_then) away waits')
            ∙ ap (λ (ns : List ℕ). ns ++ waits') (sym (append-nil (put_of shares_then ++ away)));
        at_beginnings = then_beginnings;
        last_sent = refl;
        last_put = t.last_put;
        discards = sym (behind ∙ away_ends discarding sent refl refl);
        none_since = none_left discarding sent refl refl;
        only_rests = then_rests;
        only_rest = λ none. rest sent refl;
      }
    where
      behind : unfinished (put_of shares_then ++ away) ≡ ends_in_data away (discarding || sent)
      behind =
          ends_behind (put_of shares_then) away false
          ∙ ap (ends_in_data away) (then_unfinished ∙ sent_or_not discarding refl)

      none_away : sent ≡ false → away ≡ []
      none_away k = is ∙ rw k

      through : sent ≡ true → away ≡ take (through_end waits) waits
      through k = is ∙ rw k

      -- where puts are discarded the last sent is no data
      not_sent : discarding ≡ true → sent ≡ false
      not_sent h = t.last_sent ∙ ap unfinished (front_none s.present waits (t.none_since h))

      away_ends : (d b : Bool) → discarding ≡ d → sent ≡ b → ends_in_data away (d || b) ≡ d || b && not (holds_end waits)
      away_ends true b h k = ap (λ (ns : List ℕ). ends_in_data ns true) (none_away (not_sent h))
      away_ends false true h k = ap (λ (ns : List ℕ). ends_in_data ns true) (through k) ∙ through_ends waits
      away_ends false false h k = ap (λ (ns : List ℕ). ends_in_data ns false) (none_away k)

      none_left : (d b : Bool) → discarding ≡ d → sent ≡ b → d || b && not (holds_end waits) ≡ true → waits' ≡ []
      none_left true b h k open' = back_none away waits' (sym split ∙ back_none s.present waits (t.none_since h))
      none_left false true h k open' =
          append_cancel_left away waits' []
          (sym split
          ∙ sym (append-nil away
          ∙ through k
          ∙ ap (λ (i : ℕ). take i waits) (no_end_all waits (not-true (holds_end waits) open'))
          ∙ take-length waits))
      none_left false false h k open' = absurd (false≢true open')

      rest_if : Bool → List ℕ → Type 0
      rest_if b ns = ns ≡ pick b (take (through_end ns) ns) []

      rest : (b : Bool) → sent ≡ b → rest_if (unfinished (put_of shares_then)) away
      rest true k =
          let data' : unfinished (put_of shares_then) ≡ true =
          then_unfinished ∙ sent_or_not discarding refl ∙ ap (λ (b : Bool). discarding || b) k ∙ or-true discarding in
          subst (rest_if (unfinished (put_of shares_then))) (sym (through k))
          (subst (λ (b : Bool). rest_if b (take (through_end waits) waits)) (sym data') (through_again waits))
      rest false k =
          subst (rest_if (unfinished (put_of shares_then))) (sym (none_away k)) (nothing_skipped (unfinished (put_of shares_then)))
