-- What holds of the receive store at every moment, over each thing that can happen to it: N-Chars come, the stretch ends,
-- the host takes one, all is reset.
-- Assumes nothing.
use Prim.Native.Nat.{ℕ}
use mathlib.Core.Path.{◌≡◌, refl, sym, ap, ◌∙◌}
use mathlib.Core.Bool.{Bool, true, false, not, true≢false}
use mathlib.Core.List.{List, [], ◌∷◌, ◌++◌, append-nil, append_assoc}
use lib.Seq.{append_snoc}
use Rattle.vocabulary.specs.NChars.{is_end}
use Rattle.link_laws.specs.NothingLost.{ends_in_data, eep_if}
use Rattle.link_packets.specs.Stretches.{Stretches, carrying, ending}
use Rattle.link_packets.specs.Packets.{unfinished, closed, each_closed, Part, received_of}
use Rattle.link_packets.proofs.ReadLaws.{ends_behind, read_of, each_behind, received_behind, read_behind, Closes, closes}

-- of the stretches, of what was taken and what waits, and of the marks of the last stored and the last taken
pub record Receives (reset : Bool) (s : Stretches) (taken waits : List ℕ) (stored last : Bool) : Type 0 where
  pub parts : List Part
  pub as_received : received_of parts ≡ s.over
  pub as_read : taken ++ waits ≡ read_of parts ++ s.present
  pub last_stored : stored ≡ unfinished s.present
  pub last_taken : last ≡ unfinished taken
  pub none_lost : reset ≡ false → read_of parts ≡ each_closed s.over

module _ {reset : Bool} {s : Stretches} {taken waits : List ℕ} {stored last : Bool} where
  pub received_more : (ns : List ℕ) → Receives reset s taken waits stored last →
      Receives reset (carrying s ns) taken (waits ++ ns) (ends_in_data ns stored) last
  received_more ns r =
      record {
        parts = r.parts;
        as_received = r.as_received;
        as_read =
            sym (append_assoc taken waits ns)
            ∙ ap (λ (ms : List ℕ). ms ++ ns) r.as_read
            ∙ append_assoc (read_of r.parts) s.present ns;
        last_stored = ap (ends_in_data ns) r.last_stored ∙ sym (ends_behind s.present ns false);
        last_taken = r.last_taken;
        none_lost = r.none_lost;
      }

  -- the stretch ends, and its unfinished packet is closed
  pub received_end : Receives reset s taken waits stored last →
      Receives reset (ending s) taken (waits ++ eep_if stored) false last
  received_end r =
      let whole : Part = record { kept = s.present; lost = [] } in
      record {
        parts = r.parts ++ whole ∷ [];
        as_received = received_behind r.parts whole ∙ rw (r.as_received, append-nil s.present);
        as_read =
            rw r.last_stored
            (sym (append_assoc taken waits (eep_if (unfinished s.present)))
            ∙ ap (λ (ms : List ℕ). ms ++ eep_if (unfinished s.present)) r.as_read
            ∙ append_assoc (read_of r.parts) s.present (eep_if (unfinished s.present))
            ∙ sym (append-nil (read_of (r.parts ++ whole ∷ [])) ∙ read_behind r.parts whole));
        last_stored = refl;
        last_taken = r.last_taken;
        none_lost = λ none.
            read_behind r.parts whole
            ∙ ap (λ (ns : List ℕ). ns ++ closed s.present) (r.none_lost none)
            ∙ sym (each_behind s.over s.present);
      }

  pub received_reset : Receives reset s taken waits stored last → Receives true (ending s) taken (eep_if last) false last
  received_reset r =
      let over : Receives reset (ending s) taken (waits ++ eep_if stored) false last = received_end r in
      let cut : Closes over.parts taken =
      closes over.parts taken (waits ++ eep_if stored) (over.as_read ∙ append-nil (read_of over.parts)) in
      record {
        parts = cut.parts;
        as_received = cut.as_received ∙ over.as_received;
        as_read =
            ap (λ (b : Bool). taken ++ eep_if b) r.last_taken ∙ cut.as_read ∙ sym (append-nil (read_of cut.parts));
        last_stored = refl;
        last_taken = r.last_taken;
        none_lost = λ none. absurd (true≢false none);
      }

pub received_take : {reset : Bool} {s : Stretches} {taken waits : List ℕ} {stored last : Bool} (n : ℕ) →
    Receives reset s taken (n ∷ waits) stored last → Receives reset s (taken ++ n ∷ []) waits stored (not (is_end n))
received_take {taken = taken} {waits = waits} n r =
    record {
      parts = r.parts;
      as_received = r.as_received;
      as_read = append_snoc taken n waits ∙ r.as_read;
      last_stored = r.last_stored;
      last_taken = sym (ends_behind taken (n ∷ []) false);
      none_lost = r.none_lost;
    }
