-- The packet that an input is in, as N-Chars come behind it and leave in front.
-- Assumes nothing.
use mathlib.Core.Path.{◌≡◌, ap, subst, ◌∙◌}
use mathlib.Core.List.Memᴰ
use mathlib.Core.List.{List, [], ◌∷◌, ◌++◌, append_assoc}
use Prim.Native.Nat.{ℕ}
use lib.ListN.{drop}
use Rattle.router_table.specs.declared.Heading.{Heading}
use Rattle.router_ports.specs.declared.Mode.{Mode}
use Rattle.router_ports.specs.declared.Mode.TheVariants.{Idle, Waiting, Routed, Spilling}
use Rattle.router_rounds.specs.Model.{first}
use Rattle.router_packets.specs.Journal.{Fate, empty, spilt, sent, Packet, Part, Read, Headed, Bound, Went, Journey, InMode, InProgress}

-- what was read stays read, while the text is the same or grows behind

abbrev Text : Type 0
Text = List ℕ

-- an N-Char put behind the packet that an input is in
behind : (p : Part) (held : Text) (n : ℕ) → (p.header ++ (p.cargo ++ held)) ++ n ∷ [] ≡ p.header ++ (p.cargo ++ (held ++ n ∷ []))
behind p held n =
    append_assoc p.header (p.cargo ++ held) (n ∷ [])
    ∙ ap (λ (t : Text). p.header ++ t) (append_assoc p.cargo held (n ∷ []))

-- the first N-Char of a packet is the first whatever stands behind its end
first_stays : (h g : Text) (c : ℕ) (rest : Text) (f : ℕ) (r : Text) → h ++ (g ++ c ∷ rest) ≡ f ∷ r →
    h ++ (g ++ c ∷ []) ≡ f ∷ drop 1 (h ++ (g ++ c ∷ []))
first_stays [] [] c rest f r e = ap (λ (n : ℕ). n ∷ []) (ap first e)
first_stays [] (x ∷ g) c rest f r e = ap (λ (n : ℕ). n ∷ (g ++ c ∷ [])) (ap first e)
first_stays (x ∷ h) g c rest f r e = ap (λ (n : ℕ). n ∷ (h ++ (g ++ c ∷ []))) (ap first e)

module _ (lent : List (List ℕ)) where
  -- a packet is read by its own first N-Char
  pub whole_read : {says : Heading} (h g : Text) (c : ℕ) (rest : Text) → Read lent (h ++ (g ++ c ∷ rest)) says →
      Read lent (h ++ (g ++ c ∷ [])) says
  whole_read h g c rest r =
      record {
        table = r.table;
        stood = r.stood;
        first = r.first;
        rest = drop 1 (h ++ (g ++ c ∷ []));
        begins = first_stays h g c rest r.first r.rest r.begins;
        reads = r.reads;
      }

  pub whole_bound : (header h g : Text) (c : ℕ) (rest : Text) (o : ℕ) → Bound lent (h ++ (g ++ c ∷ rest)) header o →
      Bound lent (h ++ (g ++ c ∷ [])) header o
  unfolding whole_read
  whole_bound header h g c rest o b =
      record {
        headed =
            record {
              says = b.headed.says;
              read = whole_read h g c rest b.headed.read;
              deleted = b.headed.deleted;
            };
        wanted = b.wanted;
      }

  pub same_bound : (header : Text) (o : ℕ) {text text' : Text} → text ≡ text' → Bound lent text header o → Bound lent text' header o
  same_bound header o {text} {text'} e b = subst (λ (t : Text). Bound lent t header o) e b

  pub same_read : {text text' : Text} {says : Heading} → text ≡ text' → Read lent text says → Read lent text' says
  same_read {text} {text'} {says} e r = subst (λ (t : Text). Read lent t says) e r

  pub same_headed : {text text' header : Text} → text ≡ text' → Headed lent text header → Headed lent text' header
  same_headed {text} {text'} {header} e r = subst (λ (t : Text). Headed lent t header) e r

  longer_read : {text : Text} {says : Heading} (n : ℕ) → Read lent text says → Read lent (text ++ n ∷ []) says
  longer_read n r =
      record {
        table = r.table;
        stood = r.stood;
        first = r.first;
        rest = r.rest ++ n ∷ [];
        begins = ap (λ (t : Text). t ++ n ∷ []) r.begins;
        reads = r.reads;
      }

  longer_headed : {text header : Text} (n : ℕ) → Headed lent text header → Headed lent (text ++ n ∷ []) header
  unfolding longer_read
  longer_headed n h = record { says = h.says; read = longer_read n h.read; deleted = h.deleted }

  -- an N-Char put behind
  module _ (p : Part) (held : Text) (n : ℕ) where
    put_mode : (m : Mode) → InMode lent held p m → InMode lent (held ++ n ∷ []) p m
    unfolding same_headed longer_headed
    put_mode Idle i = i
    put_mode (Waiting w) i =
        (i.0, record { headed = same_headed (behind p held n) (longer_headed n i.1.headed); ports = i.1.ports })
    put_mode (Routed o) i =
        record { headed = same_headed (behind p held n) (longer_headed n i.headed); wanted = i.wanted }
    put_mode Spilling i = (i.0, same_read (behind p held n) (longer_read n i.1))

    pub put_progress : (m : Mode) → InProgress lent held p m → InProgress lent (held ++ n ∷ []) p m
    put_progress m i = record { unended = i.unended; mode = put_mode m i.mode }

-- a table more was lent

module _ (lent : List (List ℕ)) (table : List ℕ) where
  later_read : {text : Text} {says : Heading} → Read lent text says → Read (table ∷ lent) text says
  later_read r =
      record {
        table = r.table;
        stood = Memᴰ.tail r.stood;
        first = r.first;
        rest = r.rest;
        begins = r.begins;
        reads = r.reads;
      }

  later_headed : {text header : Text} → Headed lent text header → Headed (table ∷ lent) text header
  unfolding later_read
  later_headed h = record { says = h.says; read = later_read h.read; deleted = h.deleted }

  later_mode : (held : Text) (p : Part) (m : Mode) → InMode lent held p m → InMode (table ∷ lent) held p m
  unfolding later_headed
  later_mode held p Idle i = i
  later_mode held p (Waiting w) i = (i.0, record { headed = later_headed i.1.headed; ports = i.1.ports })
  later_mode held p (Routed o) i = record { headed = later_headed i.headed; wanted = i.wanted }
  later_mode held p Spilling i = (i.0, later_read i.1)

  pub later_progress : (held : Text) (p : Part) (m : Mode) → InProgress lent held p m → InProgress (table ∷ lent) held p m
  later_progress held p m i = record { unended = i.unended; mode = later_mode held p m i.mode }

  later_went : (p : Packet) (f : Fate) → Went lent p f → Went (table ∷ lent) p f
  unfolding later_headed
  later_went p empty w = w
  later_went p spilt w = (w.0, later_read w.1)
  later_went p (sent o) w = (w.0, record { headed = later_headed w.1.headed; wanted = w.1.wanted })

  pub later_journey : (p : Packet) → Journey lent p → Journey (table ∷ lent) p
  later_journey p j =
      record { from = j.from; unended = j.unended; ended = j.ended; went = later_went p p.fate j.went }
