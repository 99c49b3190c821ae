-- The hunt for the first NULL. The decoder's places hold the last eight of eight ones and then the bits, and the eight bits
-- begin with 0: so the places hold them just where the bits end with them.
-- Assumes nothing.
use mathlib.Core.Path.{◌≡◌, refl, sym, ap, ◌∙◌}
use mathlib.Core.Bool.{Bool, true, false, true≢false}
use mathlib.Core.List.{List, [], ◌∷◌, ◌++◌, append_assoc, head-eq_of_cons-eq, tail-eq_of_cons-eq}
use Prim.Native.Nat.{ℕ, zero, suc, ◌+◌}
use native.Mathlib.Omega.{arith}
use native.Mathlib.Decide.{ℕ_discrete}
use lib.Dec.{eqb}
use lib.ListN.{length, drop, length-append}
use lib.Seq.{append_snoc, drop_at, take-append-add}
use borrow.Author.Tests.{eq-eqb, ne_eqb}
use Rattle.vocabulary.specs.declared.Token.TheVariants.{Null}
use Rattle.std.specs.Prelude.{None, Some}
use Rattle.characters.specs.Bits.{number}
use Rattle.characters.specs.Decoder.{goes_on, hunted_for, hunts, bit_step}
use Rattle.characters.specs.Refusals.{bad_decoder, is_stopped}
use Rattle.characters.proofs.BitLaws.{number_tells}
use Rattle.characters.specs.declared.reports.Report.TheVariants.{Got}
use Rattle.characters.specs.declared.reports.Waiting.TheVariants.{Reported}
use Rattle.characters.specs.States.{Hunting, Between, Decoder, Fresh, Heard}
use Rattle.characters_stream.specs.Meaning.{eight_bits, EndIn8, FirstNull}
use Rattle.characters_stream.specs.Feeding.{after}
use Rattle.characters_stream.proofs.RegisterLaws.{shifted_number}
use Rattle.characters_stream.proofs.CallLaws.{Answers, accepts}
use Rattle.characters_stream.proofs.FeedLaws.{final, after_bit, after_last, final_bit, final_last}

abbrev ones : ℕ → List Bool
ones zero = []
ones (suc k) = true ∷ ones k

-- `Hunts bits d`: d hunts, and its places hold the last eight of eight ones and then these bits
pub record Hunts (bits : List Bool) (d : Decoder) : Type 0 where
  pub oldest : Bool
  pub others : List Bool
  pub before : List Bool
  pub ends : ones 8 ++ bits ≡ before ++ oldest ∷ others
  pub seven : length others ≡ 7
  pub passes : bad_decoder d ≡ false
  pub going : is_stopped d ≡ false
  pub step : (b : Bool) → bit_step d b ≡ hunts (number (oldest ∷ others)) b

hunts_with : {bits : List Bool} {d : Decoder} (before window : List Bool) →
    ones 8 ++ bits ≡ before ++ window → length window ≡ 8 →
    bad_decoder d ≡ false → is_stopped d ≡ false → ((b : Bool) → bit_step d b ≡ hunts (number window) b) → Hunts bits d
hunts_with before [] ends eight passes going step = absurd (omega arith)
hunts_with before (o ∷ xs) ends eight passes going step =
    record {
      oldest = o;
      others = xs;
      before = before;
      ends = ends;
      seven = omega arith;
      passes = passes;
      going = going;
      step = step;
    }

pub fresh_hunts : Hunts [] Fresh
fresh_hunts = hunts_with [] (ones 8) refl refl refl refl (λ b. refl)

-- what stands behind ones and begins with 0 stands in the bits behind the ones
inside : (k : ℕ) (bits before rest : List Bool) → ones k ++ bits ≡ before ++ false ∷ rest →
    (noise : List Bool) × (bits ≡ noise ++ false ∷ rest)
inside zero bits before rest e = (before, e)
inside (suc k) bits [] rest e = absurd (true≢false (head-eq_of_cons-eq e))
inside (suc k) bits (x ∷ before) rest e = inside k bits before rest (tail-eq_of_cons-eq e)

-- two ends of one list that are as long as each other are the same
same_end : (xs ys us vs : List Bool) → length us ≡ length vs → xs ++ us ≡ ys ++ vs → us ≡ vs
same_end xs ys us vs l e =
    sym (drop_at xs us (length xs) refl) ∙ ap (drop (length xs)) e
    ∙ drop_at ys vs (length xs) (omega (arith, l, length-append xs us, length-append ys vs, ap length e))

module _ {bits : List Bool} {d : Decoder} (h : Hunts bits d) (b : Bool) where
  -- the places when b has come
  abbrev window : List Bool
  window = h.others ++ b ∷ []

  window_eight : length window ≡ 8
  window_eight = omega (arith, length-append h.others (b ∷ []), h.seven)

  window_ends : ones 8 ++ (bits ++ b ∷ []) ≡ (h.before ++ h.oldest ∷ []) ++ window
  window_ends =
      ap (λ (l : List Bool). l ++ b ∷ []) h.ends
      ∙ append_assoc h.before (h.oldest ∷ h.others) (b ∷ [])
      ∙ sym (append_snoc h.before h.oldest window)

  window_tells : number window ≡ hunted_for → EndIn8 (bits ++ b ∷ [])
  window_tells e =
      inside 8 (bits ++ b ∷ []) (h.before ++ h.oldest ∷ []) _
      (window_ends
      ∙ ap (λ (l : List Bool). (h.before ++ h.oldest ∷ []) ++ l) (number_tells window eight_bits window_eight e))

  window_told : EndIn8 (bits ++ b ∷ []) → number window ≡ hunted_for
  window_told (noise, e) =
      ap number
      (same_end (h.before ++ h.oldest ∷ []) (ones 8 ++ noise) window eight_bits window_eight
      (sym window_ends ∙ ap (λ (l : List Bool). ones 8 ++ l) e))

  pub hunt_decides : Dec (EndIn8 (bits ++ b ∷ []))
  hunt_decides = at (ℕ_discrete (number window) hunted_for)
    where
      at : Dec (number window ≡ hunted_for) → Dec (EndIn8 (bits ++ b ∷ []))
      at (yes e) = yes (window_tells e)
      at (no other) = no (λ found. other (window_told found))

  pub hunt_ends : EndIn8 (bits ++ b ∷ []) → Answers d b (Some (Got Null)) (Heard (Between Reported) 0)
  unfolding hunts goes_on
  hunt_ends found =
      accepts d b h.passes h.going
      (h.step b
      ∙ rw (shifted_number h.oldest h.others b h.seven, eq-eqb (number window) hunted_for (window_told found)))

  window_other : (EndIn8 (bits ++ b ∷ []) → ⊥) → eqb (number window) hunted_for ≡ false
  window_other other = ne_eqb (number window) hunted_for (λ e. other (window_tells e))

  pub hunt_goes_on : (EndIn8 (bits ++ b ∷ []) → ⊥) → Answers d b None (Heard (Hunting (number window)) 0)
  unfolding hunts goes_on
  hunt_goes_on other =
      accepts d b h.passes h.going
      (h.step b ∙ rw (shifted_number h.oldest h.others b h.seven, window_other other))

  pub still_hunts : (EndIn8 (bits ++ b ∷ []) → ⊥) → Hunts (bits ++ b ∷ []) (Heard (Hunting (number window)) 0)
  still_hunts other =
      hunts_with (h.before ++ h.oldest ∷ []) window window_ends window_eight
      (window_other other) refl (λ c. refl)

-- fed from where it hunts up to the first NULL, the decoder reports it on the last bit
pub first_null_run : (bits : List Bool) {seen : List Bool} {d : Decoder} (b : Bool) → Hunts seen d →
    FirstNull (seen ++ b ∷ bits) →
    (after d (b ∷ bits) ≡ Heard (Between Reported) 0) × (final d (b ∷ bits) ≡ Some (Got Null))
first_null_run [] b h null =
    let e = hunt_ends h b null.found in
    (after_last e, final_last e)
first_null_run (c ∷ bits) {seen} b h null =
    let e = hunt_goes_on h b other in
    let run = first_null_run bits c (still_hunts h b other) (rw append_snoc null) in
    (after_bit (c ∷ bits) e ∙ run.0, final_bit c bits e ∙ run.1)
  where
    other : EndIn8 (seen ++ b ∷ []) → ⊥
    other early =
        null.not_before (length seen + 1) (omega (arith, length-append seen (b ∷ c ∷ bits)))
        (rw (take-append-add seen (b ∷ c ∷ bits) 1) early)
