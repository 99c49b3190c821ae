-- Whatever happens to the ports in a round, there is a journal afterwards.
-- Assumes nothing.
use Rattle.std.specs.Prelude.{Some}
use mathlib.Core.Path.{◌≡◌, refl, sym, ap, subst, ◌∙◌}
use mathlib.Core.Bool.{Bool, true, false}
use mathlib.Core.List.{List, [], ◌∷◌, ◌++◌, append_assoc, Memᴰ}
use Prim.Native.Nat.{ℕ, ◌<◌}
use native.Mathlib.Omega.{arith}
use borrow.Author.Tests.{eq-eqb, ne_eqb}
use Rattle.vocabulary.specs.Choice.{pick}
use Rattle.vocabulary.specs.NChars.{is_end}
use Rattle.store.specs.Packets.{holds_end}
use Rattle.router_table.specs.Headings.{heading}
use Rattle.router_table.specs.declared.Direction.{Direction}
use Rattle.router_table.specs.declared.Heading.{Heading}
use Rattle.router_table.specs.declared.Heading.TheVariants.{End, Nowhere, Ports}
use Rattle.router_ports.specs.Ports.{input_store, output_store}
use Rattle.router_ports.specs.declared.Mode.{Mode}
use Rattle.router_ports.specs.declared.Mode.TheVariants.{Idle, Routed, Spilling}
use Rattle.router_ports.specs.declared.Output.{Output}
use Rattle.router_rounds.specs.Addresses.{waits}
use Rattle.router_rounds.specs.Model.{Model, model}
use Rattle.router_rounds.proofs.KeepLaws.{wish}
use Rattle.router_packets.specs.Ledger.{Ledger}
use Rattle.router_packets.specs.Journal.{empty, spilt, Packet, Part, sent_to, Read, Headed, InProgress}
use Rattle.router_packets.specs.Since.{Stage, since, before, Since}
use Rattle.router_packets.proofs.JournalLaws.{sent_elsewhere, unended_more, nothing_unended, cut_move}
use Rattle.router_packets.proofs.HeadLaws.{says_end, end_read}
use Rattle.router_packets.proofs.ProgressLaws.{same_read, whole_read}
use Rattle.router_packets.proofs.InputLaws.{nothing, past, tail, Next, Entered, still_entered}
use Rattle.router_packets.proofs.InputLaws.{ending, finishes, moved, goes_on, old_goes_on, old_finishes, deletes, turns}

-- an owner is routed to its output, and a routed input owns it
pub record Owners (y : Model) : Type 0 where
  pub routed : (i o : ℕ) → i < 11 → y.modes i ≡ Routed o → (o < 11) × ((y.outputs o).owner ≡ Some i)
  pub owned : (o i : ℕ) → o < 11 → (y.outputs o).owner ≡ Some i → y.modes i ≡ Routed o
  pub inside : (o i : ℕ) → o < 11 → (y.outputs o).owner ≡ Some i → i < 11

spilling_unrouted : (o : ℕ) → ◌≡◌ {A = Mode} Spilling (Routed o) → ⊥
spilling_unrouted o e = let z : ◌≡◌ {A = ℕ} 0 1 = cc in omega arith

module _ (was : Model) (l : Ledger) (N : ℕ) (table : List ℕ) (stood : Memᴰ table l.lent)
    (y : Model) (s : Since was l y) (owners : Owners y) (i : ℕ) (h : i < 11) where
  abbrev here : Part
  here = s.parts i

  abbrev St : List ℕ → Mode → Type 0
  St held m = Stage was l.lent held here (past was l y s i h) (tail was l y s i h) i m

  pub stage_in : (m : Mode) → y.modes i ≡ m → St (y.held (input_store i)) m
  stage_in m e = subst (St (y.held (input_store i))) e (s.stages i h)

  -- outputs do not share an input's store
  apart : (o : ℕ) → output_store o ≡ input_store i → ⊥
  apart o e = omega arith

  -- an input that is not routed owns nothing
  owns_nothing : (m : Mode) → y.modes i ≡ m → ((o : ℕ) → m ≡ Routed o → ⊥) → (p q : Part) →
      (o : ℕ) → o < 11 → (y.outputs o).owner ≡ Some i → p.cargo ≡ q.cargo
  owns_nothing m e free p q o k w = absurd (free o (sym e ∙ owners.owned o i k w))

  pub more_unended : (c : ℕ) → holds_end (here.header ++ here.cargo) ≡ false → is_end c ≡ false →
      holds_end (here.header ++ (here.cargo ++ c ∷ [])) ≡ false
  more_unended c none unended =
      ap holds_end (sym (append_assoc here.header here.cargo (c ∷ [])))
      ∙ unended_more (here.header ++ here.cargo) c none unended

  -- an input does something else: nothing leaves its store
  abbrev turned : Mode → Model
  turned m = (model N).set_mode y i m

  turned_next : (m : Mode) → Next was l y s i h (turned m) (y.held (input_store i)) m
  turned_next m =
      record {
        held = refl;
        mode = rw (eq-eqb i i refl);
        others_held = λ j b d. refl;
        others_mode = λ j b d. rw (ne_eqb j i d);
      }

  turned_entered : (m : Mode) → Entered was l y s i h (turned m) s.finished here
  turned_entered m =
      still_entered was l y s i h (turned m) here (λ o k. refl) (λ o k. refl) (λ o k w. refl) s.finished (λ o. refl)

  module _ (c : ℕ) (rest : List ℕ) (held : y.held (input_store i) ≡ c ∷ rest) where
    -- the front N-Char leaves the input's store
    abbrev left : Model
    left = (model N).drop_front y (input_store i)

    left_held : left.held (input_store i) ≡ rest
    left_held = rw (eq-eqb i i refl, held)

    left_next : (m : Mode) → y.modes i ≡ m → Next was l y s i h left rest m
    left_next m e =
        record {
          held = left_held;
          mode = e;
          others_held = λ j b d. rw (ne_eqb j i d);
          others_mode = λ j b d. refl;
        }

    left_out : (o : ℕ) → left.held (output_store o) ≡ y.held (output_store o)
    left_out o = rw (ne_eqb (output_store o) i (apart o))

    pub in_store : (m : Mode) → y.modes i ≡ m → St (c ∷ rest) m
    in_store m e = subst (λ (ns : List ℕ). St ns m) held (stage_in m e)

    reads_first : (says : Heading) → heading table c ≡ says → (text : List ℕ) → text ≡ c ∷ rest → Read l.lent text says
    reads_first says e text w =
        record { table = table; stood = stood; first = c; rest = rest; begins = w; reads = e }

    -- "an end is discarded (empty packet)"
    pub empties : y.modes i ≡ Idle → heading table c ≡ End → Since was l left
    empties e reads = go (in_store Idle e)
      where
        go : St (c ∷ rest) Idle → Since was l left
        go (before busy none no_header no_cargo away) = absurd away
        go (since clean p) =
            finishes was l y s i h c rest held Idle clean p empty p.mode (end_read table c ∙ ap says_end reads) left
            (left_next Idle e)
            (still_entered was l y s i h left nothing (λ o k. left_out o) (λ o k. refl) (λ o k w. sym p.mode.1)
            (s.finished ++ ending was l y s i h c rest held empty ∷ [])
            (λ o. sent_elsewhere s.finished (ending was l y s i h c rest held empty) o refl))

    -- what an idle input has begun with
    begins : (p : Part) → p.header ≡ [] → p.cargo ≡ [] → p.header ++ (p.cargo ++ c ∷ rest) ≡ c ∷ rest
    begins p no_header no_cargo = rw (no_header, no_cargo)

    -- "makes the input spilling"
    pub strays : y.modes i ≡ Idle → heading table c ≡ Nowhere → Since was l (turned Spilling)
    strays e reads = go (in_store Idle e)
      where
        go : St (c ∷ rest) Idle → Since was l (turned Spilling)
        go (before busy none no_header no_cargo away) = absurd away
        go (since clean p) =
            let spilling : InProgress l.lent (c ∷ rest) here Spilling =
            record {
              unended = p.unended;
              mode = (p.mode.0, reads_first Nowhere reads _ (begins here p.mode.0 p.mode.1));
            } in
            turns was l y s i h Spilling (since clean (rw held spilling)) (turned Spilling) (turned_next Spilling)
            (turned_entered Spilling)

    headed : (d : Direction) (b : Bool) → d.delete ≡ b → heading table c ≡ Ports d → (text : List ℕ) → text ≡ c ∷ rest →
        Headed l.lent text (pick b (c ∷ []) [])
    unfolding reads_first
    headed d b e reads text w =
        record {
          says = d;
          read = reads_first (Ports d) reads text w;
          deleted = ap (λ (a : Bool). pick a (c ∷ []) []) (sym e);
        }

    -- "Address 0 to 10 wants that port .. Other rows give ports, priority and deletion, done here."
    pub waits_on : (d : Direction) → y.modes i ≡ Idle → heading table c ≡ Ports d → Since was l (waits (model N) y i d)
    unfolding waits headed
    waits_on d e reads = go (in_store Idle e) d.delete refl
      where
        go : St (c ∷ rest) Idle → (b : Bool) → d.delete ≡ b →
            Since was l (pick b ((model N).drop_front (turned (wish d)) (input_store i)) (turned (wish d)))
        go (before busy none no_header no_cargo away) b w = absurd away
        go (since clean p) true w =
            let waiting : InProgress l.lent rest (record { header = c ∷ []; cargo = [] }) (wish d) =
            record {
              unended = unended_more [] c nothing_unended (end_read table c ∙ ap says_end reads);
              mode = (refl, record { headed = headed d true w reads (c ∷ rest) refl; ports = refl });
            } in
            deletes was l y s i h c rest held (wish d) clean p.mode.0 p.mode.1 waiting
            ((model N).drop_front (turned (wish d)) (input_store i))
            (record {
              held = left_held;
              mode = rw (eq-eqb i i refl);
              others_held = λ j b d. rw (ne_eqb j i d);
              others_mode = λ j b d. rw (ne_eqb j i d);
            })
            (still_entered was l y s i h ((model N).drop_front (turned (wish d)) (input_store i)) (record { header = c ∷ []; cargo = [] })
            (λ o k. left_out o) (λ o k. refl) (λ o k w. sym p.mode.1) s.finished (λ o. refl))
        go (since clean p) false w =
            let kept : Headed l.lent (here.header ++ (here.cargo ++ c ∷ rest)) here.header =
            rw p.mode.0 (headed d false w reads _ (begins (record { header = []; cargo = here.cargo }) refl p.mode.1)) in
            let waiting : InProgress l.lent (c ∷ rest) here (wish d) =
            record { unended = p.unended; mode = (p.mode.1, record { headed = kept; ports = refl }) } in
            turns was l y s i h (wish d) (since clean (rw held waiting)) (turned (wish d)) (turned_next (wish d))
            (turned_entered (wish d))

    -- "Each spilling input discards one N-Char, through the end."

    spilt_entered : (finished' : List Packet) → ((o : ℕ) → sent_to o finished' ≡ sent_to o s.finished) → y.modes i ≡ Spilling →
        (y' : Model) → ((o : ℕ) → y'.held (output_store o) ≡ y.held (output_store o)) → ((o : ℕ) → y'.outputs o ≡ y.outputs o) →
        (p : Part) → Entered was l y s i h y' finished' p
    spilt_entered finished' same_sent e y' same_held same_output p =
        still_entered was l y s i h y' p (λ o k. same_held o) (λ o k. ap (λ (out : Output). out.owner) (same_output o))
        (λ o k w. owns_nothing Spilling e spilling_unrouted p here o k w) finished' same_sent

    pub spills : y.modes i ≡ Spilling → is_end c ≡ false → Since was l left
    spills e unended = go (in_store Spilling e)
      where
        go : St (c ∷ rest) Spilling → Since was l left
        go (before busy none no_header no_cargo away) =
            old_goes_on was l y s i h c rest held busy none no_header no_cargo Spilling away left (left_next Spilling e)
            (spilt_entered s.finished (λ o. refl) e left left_out (λ o. refl) here)
        go (since clean p) =
            goes_on was l y s i h c rest held Spilling clean
            (record {
              unended = more_unended c p.unended unended;
              mode = (p.mode.0, same_read l.lent (cut_move here.header here.cargo c rest) p.mode.1);
            })
            left (left_next Spilling e)
            (spilt_entered s.finished (λ o. refl) e left left_out (λ o. refl) (moved was l y s i h c rest held))

    abbrev rested : Model
    rested = (model N).set_mode left i Idle

    rested_next : Next was l y s i h rested rest Idle
    rested_next =
        record {
          held = left_held;
          mode = rw (eq-eqb i i refl);
          others_held = λ j b d. rw (ne_eqb j i d);
          others_mode = λ j b d. rw (ne_eqb j i d);
        }

    pub rests : y.modes i ≡ Spilling → is_end c ≡ true → Since was l rested
    rests e ended = go (in_store Spilling e)
      where
        go : St (c ∷ rest) Spilling → Since was l rested
        go (before busy none no_header no_cargo away) =
            old_finishes was l y s i h c rest held busy none no_header no_cargo rested rested_next
            (spilt_entered s.finished (λ o. refl) e rested left_out (λ o. refl) nothing)
        go (since clean p) =
            let last = ending was l y s i h c rest held spilt in
            finishes was l y s i h c rest held Spilling clean p spilt
            (p.mode.0, whole_read l.lent here.header here.cargo c rest p.mode.1) ended rested rested_next
            (spilt_entered (s.finished ++ last ∷ []) (λ o. sent_elsewhere s.finished last o refl) e rested left_out (λ o. refl) nothing)
