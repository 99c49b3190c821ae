-- What can happen to the packet that an input is in, with every other input as it was.
-- Assumes nothing.
use Rattle.std.specs.Prelude.{Option, None, Some}
use mathlib.Core.Path.{◌≡◌, refl, sym, ap, ◌∙◌}
use mathlib.Core.Bool.{true}
use mathlib.Core.List.{List, [], ◌∷◌, ◌++◌, Memᴰ}
use Prim.Native.Nat.{ℕ, ◌<◌}
use native.Mathlib.Decide.{ℕ_discrete}
use borrow.Author.Tests.{eq-eqb, ne_eqb}
use Rattle.vocabulary.specs.NChars.{is_end}
use Rattle.router_ports.specs.Ports.{input_store, output_store}
use Rattle.router_ports.specs.declared.Mode.{Mode}
use Rattle.router_ports.specs.declared.Mode.TheVariants.{Idle}
use Rattle.router_rounds.specs.Model.{Model, at}
use Rattle.router_rings.proofs.RingProof.{at_same}
use Rattle.router_packets.specs.Ledger.{Ledger}
use Rattle.router_packets.specs.Journal.{Fate, Packet, Part, put_to, sent_to, Went, Journey, InProgress, by_owner}
use Rattle.router_packets.specs.Since.{Clear, Apart, Stage, since, before, Since}
use Rattle.router_packets.proofs.JournalLaws.{put_mine, put_others, one_more, nothing_unended}
use Rattle.router_packets.proofs.JournalLaws.{cut_move, cut_close, cut_tail}

abbrev pub nothing : Part
nothing = record { header = []; cargo = [] }

pub nothing_yet : (lent : List (List ℕ)) (held : List ℕ) → InProgress lent held nothing Idle
nothing_yet lent held = record { unended = nothing_unended; mode = (refl, refl) }

-- what an owner has moved is the same, unless it is this input and it moved something
pub owner_same : (parts : ℕ → Part) (i : ℕ) (p : Part) (w : Option ℕ) → (w ≡ Some i → p.cargo ≡ (parts i).cargo) →
    by_owner (at parts i p) w ≡ by_owner parts w
owner_same parts i p None same = refl
owner_same parts i p (Some j) same = go (ℕ_discrete j i)
  where
    go : Dec (j ≡ i) → (at parts i p j).cargo ≡ (parts j).cargo
    go (yes e) = rw (e, eq-eqb i i refl) (same (ap Some e))
    go (no d) = rw (ne_eqb j i d)

pub mine_moved : (parts : ℕ → Part) (i : ℕ) (p : Part) → by_owner (at parts i p) (Some i) ≡ p.cargo
mine_moved parts i p = ap (λ (q : Part). q.cargo) (at_same parts i p)

module _ (was : Model) (l : Ledger) (y : Model) (s : Since was l y) (i : ℕ) (h : i < 11) where
  abbrev pub past : List ℕ
  past = put_to i s.finished

  abbrev pub part : Part
  part = s.parts i

  abbrev pub tail : List ℕ
  tail = s.tails i

  -- the ports as they are next: input i alone has changed
  pub record Next (y' : Model) (held' : List ℕ) (m' : Mode) : Type 0 where
    pub held : y'.held (input_store i) ≡ held'
    pub mode : y'.modes i ≡ m'
    pub others_held : (j : ℕ) → j < 11 → (j ≡ i → ⊥) → y'.held (input_store j) ≡ y.held (input_store j)
    pub others_mode : (j : ℕ) → j < 11 → (j ≡ i → ⊥) → y'.modes j ≡ y.modes j

  -- what entered the outputs, by the journal as it is next
  abbrev pub Entered : Model → List Packet → Part → Type 0
  Entered y' finished' part' =
      (o : ℕ) → o < 11 → Clear was o →
      l.taken o ++ y'.held (output_store o)
      ≡ was.held (output_store o) ++ (sent_to o finished' ++ by_owner (at s.parts i part') (y'.outputs o).owner)

  abbrev pub Line : List ℕ → List ℕ → Part → List ℕ → Type 0
  Line tail' past' part' held' =
      was.held (input_store i) ++ l.put i ≡ tail' ++ (past' ++ (part'.header ++ (part'.cargo ++ held')))

  one_input : (y' : Model) (held' : List ℕ) (m' : Mode) → Next y' held' m' →
      (finished' : List Packet) (part' : Part) (tail' : List ℕ) →
      ((j : ℕ) → (j ≡ i → ⊥) → put_to j finished' ≡ put_to j s.finished) →
      ((p : Packet) → Memᴰ p finished' → Journey l.lent p) →
      Line tail' (put_to i finished') part' held' →
      Stage was l.lent held' part' (put_to i finished') tail' i m' →
      Entered y' finished' part' → Since was l y'
  one_input y' held' m' next finished' part' tail' same_put journeys line stage entered =
      record {
        finished = finished';
        parts = at s.parts i part';
        tails = at s.tails i tail';
        journeys = journeys;
        inputs = λ j b. lines j b (ℕ_discrete j i);
        stages = λ j b. stages j b (ℕ_discrete j i);
        outputs = entered;
      }
    where
      lines : (j : ℕ) → j < 11 → Dec (j ≡ i) →
          was.held (input_store j) ++ l.put j
          ≡ at s.tails i tail' j
          ++ (put_to j finished' ++ ((at s.parts i part' j).header ++ ((at s.parts i part' j).cargo ++ y'.held (input_store j))))
      lines j b (yes e) = rw (e, eq-eqb i i refl, next.held) line
      lines j b (no d) = rw (ne_eqb j i d, same_put j d, next.others_held j b d) (s.inputs j b)

      stages : (j : ℕ) → j < 11 → Dec (j ≡ i) →
          Stage was l.lent (y'.held (input_store j)) (at s.parts i part' j) (put_to j finished') (at s.tails i tail' j) j (y'.modes j)
      stages j b (yes e) = rw (e, eq-eqb i i refl, next.held, next.mode) stage
      stages j b (no d) = rw (ne_eqb j i d, same_put j d, next.others_held j b d, next.others_mode j b d) (s.stages j b)

  -- nothing more was moved to an output
  pub still_entered : (y' : Model) (part' : Part) →
      ((o : ℕ) → o < 11 → y'.held (output_store o) ≡ y.held (output_store o)) →
      ((o : ℕ) → o < 11 → (y'.outputs o).owner ≡ (y.outputs o).owner) →
      ((o : ℕ) → o < 11 → (y.outputs o).owner ≡ Some i → part'.cargo ≡ part.cargo) →
      (finished' : List Packet) → ((o : ℕ) → sent_to o finished' ≡ sent_to o s.finished) → Entered y' finished' part'
  still_entered y' part' same_held same_owner same_cargo finished' same_sent o k clear =
      rw (same_held o k, same_owner o k, same_sent o, owner_same s.parts i part' (y.outputs o).owner (same_cargo o k))
      (s.outputs o k clear)

  module _ (c : ℕ) (rest : List ℕ) (held : y.held (input_store i) ≡ c ∷ rest) where
    line : Line tail past part (c ∷ rest)
    line = s.inputs i h ∙ ap (λ (ns : List ℕ). tail ++ (past ++ (part.header ++ (part.cargo ++ ns)))) held

    -- the end of a packet of the journal
    abbrev pub ending : Fate → Packet
    ending fate = record { input = i; header = part.header; cargo = part.cargo; end = c; fate = fate }

    pub finishes : (m : Mode) → (was.modes i ≡ Idle → tail ≡ []) → InProgress l.lent (c ∷ rest) part m →
        (fate : Fate) → Went l.lent (ending fate) fate → is_end c ≡ true →
        (y' : Model) → Next y' rest Idle → Entered y' (s.finished ++ ending fate ∷ []) nothing → Since was l y'
    finishes m clean progress fate went e y' next entered =
        let mine = put_mine s.finished (ending fate) in
        one_input y' rest Idle next (s.finished ++ ending fate ∷ []) nothing tail
        (λ j d. put_others s.finished (ending fate) j d)
        (one_more (Journey l.lent) s.finished (ending fate) s.journeys
        (record { from = h; unended = progress.unended; ended = e; went = went }))
        (line ∙ ap (λ (ns : List ℕ). tail ++ ns) (cut_close past part.header part.cargo c rest ∙ ap (λ (ns : List ℕ). ns ++ rest) (sym mine)))
        (since clean (nothing_yet l.lent rest)) entered

    -- one N-Char of a packet of the journal
    abbrev pub moved : Part
    moved = record { header = part.header; cargo = part.cargo ++ c ∷ [] }

    pub goes_on : (m : Mode) → (was.modes i ≡ Idle → tail ≡ []) → InProgress l.lent rest moved m →
        (y' : Model) → Next y' rest m → Entered y' s.finished moved → Since was l y'
    goes_on m clean progress y' next entered =
        one_input y' rest m next s.finished moved tail (λ j d. refl) s.journeys
        (line ∙ ap (λ (ns : List ℕ). tail ++ (past ++ ns)) (cut_move part.header part.cargo c rest))
        (since clean progress) entered

    -- a packet that the input was in before

    module _ (busy : was.modes i ≡ Idle → ⊥) (none : past ≡ []) (no_header : part.header ≡ []) (no_cargo : part.cargo ≡ []) where
      older : Line (tail ++ c ∷ []) past part rest
      older =
          rw (none, no_header, no_cargo)
          ((rw (none, no_header, no_cargo) at line) ∙ cut_tail tail c rest)

      pub old_goes_on : (m : Mode) → Apart was m → (y' : Model) → Next y' rest m → Entered y' s.finished part → Since was l y'
      old_goes_on m apart y' next entered =
          one_input y' rest m next s.finished part (tail ++ c ∷ []) (λ j d. refl) s.journeys older
          (before busy none no_header no_cargo apart) entered

      pub old_finishes : (y' : Model) → Next y' rest Idle → Entered y' s.finished nothing → Since was l y'
      old_finishes y' next entered =
          one_input y' rest Idle next s.finished nothing (tail ++ c ∷ []) (λ j d. refl) s.journeys
          (rw (no_header, no_cargo) at older)
          (since (λ e. absurd (busy e)) (nothing_yet l.lent rest)) entered

    -- its header is deleted
    pub deletes : (m : Mode) → (was.modes i ≡ Idle → tail ≡ []) → part.header ≡ [] → part.cargo ≡ [] →
        InProgress l.lent rest (record { header = c ∷ []; cargo = [] }) m →
        (y' : Model) → Next y' rest m → Entered y' s.finished (record { header = c ∷ []; cargo = [] }) → Since was l y'
    deletes m clean no_header no_cargo progress y' next entered =
        one_input y' rest m next s.finished (record { header = c ∷ []; cargo = [] }) tail (λ j d. refl) s.journeys
        (rw (no_header, no_cargo) at line)
        (since clean progress) entered

  -- an input does something else
  pub turns : (m : Mode) → Stage was l.lent (y.held (input_store i)) part past tail i m →
      (y' : Model) → Next y' (y.held (input_store i)) m → Entered y' s.finished part → Since was l y'
  turns m stage y' next entered =
      one_input y' (y.held (input_store i)) m next s.finished part tail (λ j d. refl) s.journeys (s.inputs i h) stage entered
