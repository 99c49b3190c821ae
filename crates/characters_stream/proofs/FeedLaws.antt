-- The decoder fed with a list of bits: one call at the front, and bits behind other bits.
-- Assumes nothing.
use mathlib.Core.Path.{◌≡◌, refl, sym, ap, ◌∙◌}
use mathlib.Core.Bool.{Bool}
use mathlib.Core.List.{List, [], ◌∷◌, ◌++◌, append_assoc}
use Prim.Native.Nat.{ℕ, ◌+◌}
use native.Mathlib.Omega.{arith}
use lib.ListN.{length}
use Rattle.std.specs.Prelude.{Option, None}
use Rattle.characters.specs.Calls.{bit_answer}
use Rattle.characters.specs.declared.reports.Report.{Report}
use Rattle.characters.specs.States.{Decoder}
use Rattle.characters_stream.specs.Meaning.{Line}
use Rattle.characters_stream.specs.Feeding.{line_of, fed, after}
use Rattle.characters_stream.proofs.CallLaws.{Answers}

-- what is reported on the last bit
unfoldable pub final : Decoder → List Bool → Option Report
final d [] = None
final d (b ∷ []) = (bit_answer d b).report
final d (b ∷ c ∷ bits) = final (bit_answer d b).decoder (c ∷ bits)

-- one call at the front
pub after_bit : {d d' : Decoder} {b : Bool} {r : Option Report} (bits : List Bool) → Answers d b r d' →
    after d (b ∷ bits) ≡ after d' bits
unfolding after
after_bit bits answers = ap (λ (d : Decoder). after d bits) answers.leaves

pub after_last : {d d' : Decoder} {b : Bool} {r : Option Report} → Answers d b r d' → after d (b ∷ []) ≡ d'
unfolding after
after_last answers = answers.leaves

pub final_bit : {d d' : Decoder} {b : Bool} {r : Option Report} (c : Bool) (bits : List Bool) → Answers d b r d' →
    final d (b ∷ c ∷ bits) ≡ final d' (c ∷ bits)
unfolding final
final_bit c bits answers = ap (λ (d : Decoder). final d (c ∷ bits)) answers.leaves

pub final_last : {d d' : Decoder} {b : Bool} {r : Option Report} → Answers d b r d' → final d (b ∷ []) ≡ r
unfolding final
final_last answers = answers.reports

-- bits behind others are fed to the decoder that those left
pub after_append : (d : Decoder) (xs ys : List Bool) → after d (xs ++ ys) ≡ after (after d xs) ys
unfolding after
after_append d [] ys = refl
after_append d (x ∷ xs) ys = after_append (bit_answer d x).decoder xs ys

pub final_behind : (d : Decoder) (xs : List Bool) (b : Bool) (ys : List Bool) →
    final d (xs ++ b ∷ ys) ≡ final (after d xs) (b ∷ ys)
unfolding after final
final_behind d [] b ys = refl
final_behind d (x ∷ []) b ys = refl
final_behind d (x ∷ y ∷ xs) b ys = final_behind (bit_answer d x).decoder (y ∷ xs) b ys

pub fed_append : (d : Decoder) (n : ℕ) (xs ys : List Bool) →
    fed d n (xs ++ ys) ≡ fed d n xs ++ fed (after d xs) (n + length xs) ys
unfolding after fed
fed_append d n [] ys = ap (λ (m : ℕ). fed d m ys) (omega arith)
fed_append d n (x ∷ xs) ys =
    let d' = (bit_answer d x).decoder in
    let line = line_of n (bit_answer d x).report in
    ap (λ (lines : List Line). line ++ lines)
    (fed_append d' (n + 1) xs ys ∙ ap (λ (m : ℕ). fed d' (n + 1) xs ++ fed (after d' xs) m ys) (omega arith))
    ∙ sym (append_assoc line (fed d' (n + 1) xs) _)
