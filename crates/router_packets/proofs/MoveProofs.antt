-- A grant, a move of one N-Char and the move of an end: there is a journal afterwards, and the output holds what it had and that one.
-- Assumes nothing.
use Rattle.std.specs.Prelude.{Option, None, Some}
use mathlib.Core.Path.{◌≡◌, refl, sym, ap, subst, ◌∙◌}
use mathlib.Core.Bool.{Bool, true, false, ◌&&◌, false≢true}
use mathlib.Core.List.{List, [], ◌∷◌, ◌++◌, append_assoc, append-nil, Memᴰ}
use Prim.Native.Nat.{ℕ, ◌<◌}
use native.Mathlib.Decide.{ℕ_discrete}
use native.Mathlib.Omega.{arith}
use borrow.Author.Tests.{eq-eqb, ne_eqb}
use Rattle.vocabulary.specs.NChars.{is_end}
use Rattle.router_ports.specs.Ports.{wants, input_store, output_store}
use Rattle.router_ports.specs.declared.Wanted.{Wanted}
use Rattle.router_ports.specs.declared.Mode.{Mode}
use Rattle.router_ports.specs.declared.Mode.TheVariants.{Idle, Waiting, Routed, Spilling}
use Rattle.router_rounds.specs.Grants.{same, waits_for}
use Rattle.router_rounds.specs.Moves.{frees, carries}
use Rattle.router_rounds.specs.Model.{Model, model, at}
use Rattle.router_rounds.proofs.DeedLaws.{grant}
use Rattle.router_packets.specs.Ledger.{Ledger}
use Rattle.router_packets.specs.Journal.{sent, Part, sent_to, by_owner}
use Rattle.router_packets.specs.Since.{Clear, Stage, since, before, Since}
use Rattle.router_packets.proofs.JournalLaws.{sent_here, sent_elsewhere, cut_move}
use Rattle.router_packets.proofs.ProgressLaws.{same_bound, whole_bound}
use Rattle.router_packets.proofs.InputLaws.{nothing, owner_same, mine_moved, past, tail, Next, Entered}
use Rattle.router_packets.proofs.InputLaws.{ending, finishes, moved, goes_on, old_goes_on, old_finishes, turns}
use Rattle.router_packets.proofs.DeedProofs.{Owners, in_store, more_unended}

-- an input that waits for this output wants it
wants_it : (o : ℕ) (high : Bool) (w : Wanted) → waits_for o high (Waiting w) ≡ true → wants w.ports o ≡ true
wants_it o high w e = go (same w.high high) e
  where
    go : (b : Bool) → b && wants w.ports o ≡ true → wants w.ports o ≡ true
    go true f = f
    go false f = absurd (false≢true f)

module _ (was : Model) (l : Ledger) (N : ℕ) (table : List ℕ) (stood : Memᴰ table l.lent)
    (y : Model) (s : Since was l y) (owners : Owners y) (i : ℕ) (h : i < 11) (o : ℕ) (k : o < 11) where
  abbrev here : Part
  here = s.parts i

  abbrev St : List ℕ → Mode → Type 0
  St held m = Stage was l.lent held here (past was l y s i h) (tail was l y s i h) i m

  -- a free output takes it

  no_cargo_yet : (held : List ℕ) (high : Bool) (m : Mode) → waits_for o high m ≡ true → St held m → here.cargo ≡ []
  no_cargo_yet held high Idle w st = absurd (false≢true w)
  no_cargo_yet held high (Waiting v) w (since clean p) = p.mode.0
  no_cargo_yet held high (Waiting v) w (before busy none no_header no_cargo away) = no_cargo
  no_cargo_yet held high (Routed p) w st = absurd (false≢true w)
  no_cargo_yet held high Spilling w st = absurd (false≢true w)

  goes_there : (held : List ℕ) (high : Bool) (m : Mode) → waits_for o high m ≡ true → St held m → St held (Routed o)
  goes_there held high Idle w st = absurd (false≢true w)
  goes_there held high (Waiting v) w (since clean p) =
      since clean
      (record {
        unended = p.unended;
        mode =
            record {
              headed = p.mode.1.headed;
              wanted = ap (λ (ports : ℕ). wants ports o) (sym p.mode.1.ports) ∙ wants_it o high v w;
            };
      })
  goes_there held high (Waiting v) w (before busy none no_header no_cargo away) =
      before busy none no_header no_cargo (λ clear. false≢true (sym (away o k clear) ∙ wants_it o high v w))
  goes_there held high (Routed p) w st = absurd (false≢true w)
  goes_there held high Spilling w st = absurd (false≢true w)

  pub grants : (high : Bool) → (y.outputs o).owner ≡ None → waits_for o high (y.modes i) ≡ true → Since was l (grant (model N) y o i)
  grants high free waiting =
      let none = no_cargo_yet (y.held (input_store i)) high (y.modes i) waiting (s.stages i h) in
      turns was l y s i h (Routed o) (goes_there (y.held (input_store i)) high (y.modes i) waiting (s.stages i h))
      (grant (model N) y o i)
      (record {
        held = refl;
        mode = rw (eq-eqb i i refl);
        others_held = λ j b d. refl;
        others_mode = λ j b d. rw (ne_eqb j i d);
      })
      (λ p q clear. entered none p q clear (ℕ_discrete p o))
    where
      entered : here.cargo ≡ [] → (p : ℕ) → p < 11 → Clear was p → Dec (p ≡ o) →
          l.taken p ++ y.held (output_store p)
          ≡ was.held (output_store p)
          ++ (sent_to p s.finished ++ by_owner (at s.parts i here) (at y.outputs o (record { owner = Some i; last = i }) p).owner)
      entered none p q clear (yes e) =
          rw (e, eq-eqb o o refl, mine_moved s.parts i here, none) (rw (e, free) at (s.outputs p q clear))
      entered none p q clear (no d) =
          rw (ne_eqb p o d, owner_same s.parts i here (y.outputs p).owner (λ w. refl)) (s.outputs p q clear)

  -- it moves an N-Char

  module _ (c : ℕ) (rest : List ℕ) (held : y.held (input_store i) ≡ c ∷ rest) (routed : y.modes i ≡ Routed o) where
    abbrev carried : Model
    carried = (model N).drop_front ((model N).append y (output_store o) c) (input_store i)

    apart : (p : ℕ) → input_store i ≡ output_store p → ⊥
    apart p e = omega arith

    carried_held : carried.held (input_store i) ≡ rest
    carried_held = rw (eq-eqb i i refl, ne_eqb i (output_store o) (apart o), held)

    carried_others : (j : ℕ) → j < 11 → (j ≡ i → ⊥) → carried.held (input_store j) ≡ y.held (input_store j)
    carried_others j b d = rw (ne_eqb j i d, ne_eqb j (output_store o) (λ e. omega arith))

    carried_here : carried.held (output_store o) ≡ y.held (output_store o) ++ c ∷ []
    carried_here = rw (ne_eqb (output_store o) i (λ e. apart o (sym e)), eq-eqb (output_store o) (output_store o) refl)

    carried_elsewhere : (p : ℕ) → (p ≡ o → ⊥) → carried.held (output_store p) ≡ y.held (output_store p)
    carried_elsewhere p d =
        rw (ne_eqb (output_store p) i (λ e. apart p (sym e)), ne_eqb (output_store p) (output_store o) (λ e. d (omega arith)))

    mine : (y.outputs o).owner ≡ Some i
    mine = (owners.routed i o h routed).1

    not_mine : (p : ℕ) → p < 11 → (p ≡ o → ⊥) → (y.outputs p).owner ≡ Some i → ⊥
    not_mine p q d e = d (routed_once (sym (owners.owned p i q e) ∙ routed))
      where
        routed_once : ◌≡◌ {A = Mode} (Routed p) (Routed o) → p ≡ o
        routed_once e = cc

    -- what the output holds is what it had and the one that came
    one_more_here : Clear was o → (sent' : List ℕ) → sent_to o s.finished ++ (here.cargo ++ c ∷ []) ≡ sent' →
        l.taken o ++ carried.held (output_store o) ≡ was.held (output_store o) ++ sent'
    one_more_here clear sent' e =
        ap (λ (ns : List ℕ). l.taken o ++ ns) carried_here
        ∙ sym (append_assoc (l.taken o) (y.held (output_store o)) (c ∷ []))
        ∙ ap (λ (ns : List ℕ). ns ++ c ∷ []) (s.outputs o k clear ∙ ap (λ (w : Option ℕ). was.held (output_store o) ++ (sent_to o s.finished ++ by_owner s.parts w)) mine)
        ∙ append_assoc (was.held (output_store o)) (sent_to o s.finished ++ here.cargo) (c ∷ [])
        ∙ ap (λ (ns : List ℕ). was.held (output_store o) ++ ns) (append_assoc (sent_to o s.finished) here.cargo (c ∷ []) ∙ e)

    elsewhere : (p : ℕ) → p < 11 → (p ≡ o → ⊥) → Clear was p → (part' : Part) (sent' : List ℕ) → sent' ≡ sent_to p s.finished →
        l.taken p ++ carried.held (output_store p)
        ≡ was.held (output_store p) ++ (sent' ++ by_owner (at s.parts i part') (y.outputs p).owner)
    elsewhere p q d clear part' sent' e =
        rw (
          carried_elsewhere p d,
          e,
          owner_same s.parts i part' (y.outputs p).owner (λ w. absurd (not_mine p q d w)),
        ) (s.outputs p q clear)

    carried_next : Next was l y s i h carried rest (Routed o)
    carried_next =
        record {
          held = carried_held;
          mode = routed;
          others_held = carried_others;
          others_mode = λ j b d. refl;
        }

    pub carries_on : is_end c ≡ false → Since was l (carries (model N) y i o c)
    unfolding carries
    carries_on unended = go (in_store was l N table stood y s owners i h c rest held (Routed o) routed)
      where
        old : (Clear was o → ⊥) → Entered was l y s i h carried s.finished here
        old away p q clear = at_output (ℕ_discrete p o)
          where
            at_output : Dec (p ≡ o) →
                l.taken p ++ carried.held (output_store p)
                ≡ was.held (output_store p) ++ (sent_to p s.finished ++ by_owner (at s.parts i here) (y.outputs p).owner)
            at_output (yes e) = absurd (away (subst (Clear was) e clear))
            at_output (no d) = elsewhere p q d clear here (sent_to p s.finished) refl

        new : Entered was l y s i h carried s.finished (moved was l y s i h c rest held)
        new p q clear = at_output (ℕ_discrete p o)
          where
            at_output : Dec (p ≡ o) →
                l.taken p ++ carried.held (output_store p)
                ≡ was.held (output_store p)
                ++ (sent_to p s.finished ++ by_owner (at s.parts i (moved was l y s i h c rest held)) (y.outputs p).owner)
            at_output (yes e) =
                rw (e, mine, mine_moved s.parts i (moved was l y s i h c rest held))
                (one_more_here (subst (Clear was) e clear) _ refl)
            at_output (no d) = elsewhere p q d clear (moved was l y s i h c rest held) (sent_to p s.finished) refl

        go : St (c ∷ rest) (Routed o) → Since was l carried
        go (before busy none no_header no_cargo away) =
            old_goes_on was l y s i h c rest held busy none no_header no_cargo (Routed o) away carried carried_next (old away)
        go (since clean p) =
            goes_on was l y s i h c rest held (Routed o) clean
            (record {
              unended = more_unended was l N table stood y s owners i h c p.unended unended;
              mode = same_bound l.lent here.header o (cut_move here.header here.cargo c rest) p.mode;
            })
            carried carried_next new

    -- "an end frees both"
    abbrev freed : Model
    freed = frees (model N) carried i o

    freed_next : Next was l y s i h freed rest Idle
    unfolding frees
    freed_next =
        record {
          held = carried_held;
          mode = rw (eq-eqb i i refl);
          others_held = carried_others;
          others_mode = λ j b d. rw (ne_eqb j i d);
        }

    freed_owner : (freed.outputs o).owner ≡ None
    unfolding frees
    freed_owner = rw (eq-eqb o o refl)

    freed_elsewhere : (p : ℕ) → (p ≡ o → ⊥) → freed.outputs p ≡ y.outputs p
    unfolding frees
    freed_elsewhere p d = rw (ne_eqb p o d)

    freed_held : (p : ℕ) → freed.held p ≡ carried.held p
    unfolding frees
    freed_held p = refl

    other_output : (p : ℕ) → p < 11 → (p ≡ o → ⊥) → Clear was p → (sent' : List ℕ) → sent' ≡ sent_to p s.finished →
        l.taken p ++ freed.held (output_store p)
        ≡ was.held (output_store p) ++ (sent' ++ by_owner (at s.parts i nothing) (freed.outputs p).owner)
    other_output p q d clear sent' e =
        rw (freed_held (output_store p), freed_elsewhere p d) (elsewhere p q d clear nothing sent' e)

    pub closes : is_end c ≡ true → Since was l (frees (model N) (carries (model N) y i o c) i o)
    unfolding carries
    closes ended = go (in_store was l N table stood y s owners i h c rest held (Routed o) routed)
      where
        old : (Clear was o → ⊥) → Entered was l y s i h freed s.finished nothing
        old away p q clear = at_output (ℕ_discrete p o)
          where
            at_output : Dec (p ≡ o) →
                l.taken p ++ freed.held (output_store p)
                ≡ was.held (output_store p) ++ (sent_to p s.finished ++ by_owner (at s.parts i nothing) (freed.outputs p).owner)
            at_output (yes e) = absurd (away (subst (Clear was) e clear))
            at_output (no d) = other_output p q d clear (sent_to p s.finished) refl

        new : Entered was l y s i h freed (s.finished ++ ending was l y s i h c rest held (sent o) ∷ []) nothing
        new p q clear = at_output (ℕ_discrete p o)
          where
            at_output : Dec (p ≡ o) →
                l.taken p ++ freed.held (output_store p)
                ≡ was.held (output_store p)
                ++ (sent_to p (s.finished ++ ending was l y s i h c rest held (sent o) ∷ [])
                ++ by_owner (at s.parts i nothing) (freed.outputs p).owner)
            at_output (yes e) =
                rw (e, freed_owner, freed_held (output_store o))
                (one_more_here (subst (Clear was) e clear) _
                (sym (sent_here s.finished (ending was l y s i h c rest held (sent o)) o (eq-eqb o o refl)) ∙ sym (append-nil _)))
            at_output (no d) =
                other_output p q d clear _
                (sent_elsewhere s.finished (ending was l y s i h c rest held (sent o)) p (ne_eqb o p (λ e. d (sym e))))

        go : St (c ∷ rest) (Routed o) → Since was l freed
        go (before busy none no_header no_cargo away) =
            old_finishes was l y s i h c rest held busy none no_header no_cargo freed freed_next (old away)
        go (since clean p) =
            finishes was l y s i h c rest held (Routed o) clean p (sent o)
            (k, whole_bound l.lent here.header here.header here.cargo c rest o p.mode) ended freed freed_next new
