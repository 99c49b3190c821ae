-- The decoder fed with several bits: what it reports of them and how it is left, one character at a time.
-- Assumes nothing.
use mathlib.Core.Path.{◌≡◌, refl, ap, ◌∙◌}
use mathlib.Core.Bool.{Bool, true, false}
use mathlib.Core.List.{List, [], ◌∷◌, ◌++◌}
use Prim.Native.Nat.{ℕ, zero, suc, ◌+◌}
use native.Mathlib.Omega.{arith}
use lib.ListN.{length, length-append}
use lib.Seq.{append_snoc}
use Rattle.vocabulary.specs.declared.Token.TheVariants.{Null}
use Rattle.std.specs.Prelude.{Option, None, Some}
use Rattle.characters.specs.Bits.{number}
use Rattle.characters.specs.Wire.{good_parity}
use Rattle.characters.specs.Decoder.{goes_on, hunts, body_odd, escaped, closes, body_of, data_token}
use Rattle.characters.specs.Refusals.{bad_waiting}
use Rattle.characters.specs.Calls.{bit_answer, decode_accepted}
use Rattle.characters.specs.declared.reports.Report.{Report}
use Rattle.characters.specs.declared.reports.Report.TheVariants.{Got}
use Rattle.characters.specs.declared.reports.Waiting.{Waiting}
use Rattle.characters.specs.declared.reports.Waiting.TheVariants.{Reported, Whole}
use Rattle.characters.specs.States.{Between, Data, Control, Decoder, Fresh, Heard}
use Rattle.characters_stream.specs.Meaning.{Line, eight_bits, Reading, byte, fct, eop, eep, esc, null, time_code}
use Rattle.characters_stream.specs.Feeding.{line_of, fed, after}
use Rattle.characters_stream.specs.RoundTrip.{reports_of}
use Rattle.characters_stream.proofs.RegisterLaws.{marked}
use Rattle.characters_stream.proofs.CallLaws.{Answers, parity_comes, flag_closes, data_comes, data_whole}
use Rattle.characters_stream.proofs.CallLaws.{control_comes, second_whole}

-- what a call adds to the reports
abbrev pub said : Option Report → List Report
said r = reports_of (line_of 0 r)

-- `Run d bits rs d'`: fed with these bits, d reports rs and is then d'
pub record Run (d : Decoder) (bits : List Bool) (rs : List Report) (d' : Decoder) : Type 0 where
  pub leaves : after d bits ≡ d'
  pub says : (n : ℕ) → reports_of (fed d n bits) ≡ rs

pub run_none : {d : Decoder} → Run d [] [] d
unfolding after fed
run_none = record { leaves = refl; says = λ n. refl }

reports_append : (n : ℕ) (r : Option Report) (lines : List Line) → reports_of (line_of n r ++ lines) ≡ said r ++ reports_of lines
reports_append n None lines = refl
reports_append n (Some r) lines = refl

pub run_bit : {d d' d'' : Decoder} {b : Bool} {bits : List Bool} {r : Option Report} {rs : List Report} →
    Answers d b r d' → Run d' bits rs d'' → Run d (b ∷ bits) (said r ++ rs) d''
unfolding after fed
run_bit {bits} {r} answers run =
    record {
      leaves = rw answers.leaves run.leaves;
      says = λ n. rw (answers.leaves, answers.reports)
          (reports_append n r _ ∙ ap (λ (s : List Report). said r ++ s) (run.says (n + 1)));
    }

data_run : {d : Decoder} {rest : List Bool} {rs : List Report} (escape : Bool) (k : ℕ) (ds xs : List Bool) →
    k + length ds ≡ 7 → length xs ≡ suc k →
    Run (Heard (Between (Whole (data_token escape (number (ds ++ xs))))) 0) rest rs d →
    Run (Heard (Data escape (number (marked k ds))) 0) (xs ++ rest) rs d
data_run escape k ds [] seven left run = absurd (omega arith)
data_run escape zero ds (b ∷ []) seven left run = run_bit (data_whole escape ds b (omega arith)) run
data_run escape zero ds (b ∷ c ∷ xs) seven left run = absurd (omega arith)
data_run escape (suc k) ds (b ∷ xs) seven left run =
    run_bit (data_comes escape k ds b seven)
    (data_run escape k (ds ++ b ∷ []) xs (omega (arith, length-append ds (b ∷ []))) (omega arith) (rw append_snoc run))

control_run : {escape a b : Bool} {w : Waiting} {d : Decoder} {rest : List Bool} {rs : List Report} →
    Reading escape true (a ∷ b ∷ []) w → Run (Heard (Between w) 0) rest rs d →
    Run (Heard (Control escape) 0) (a ∷ b ∷ rest) rs d
control_run {escape} {a} reading run = run_bit (control_comes escape a) (run_bit (second_whole reading) run)

body_run : {escape flag : Bool} {body : List Bool} {w : Waiting} {d : Decoder} {rest : List Bool} {rs : List Report} →
    Reading escape flag body w → Run (Heard (Between w) 0) rest rs d →
    Run (Heard (body_of escape flag) 0) (body ++ rest) rs d
body_run (byte {body} eight) run = data_run false 7 [] body refl eight run
body_run fct run = control_run fct run
body_run eop run = control_run eop run
body_run eep run = control_run eep run
body_run esc run = control_run esc run
body_run null run = control_run null run
body_run (time_code {body} eight) run = data_run true 7 [] body refl eight run

-- a character with good parity: at its flag the one before it is reported, and behind it its own reading waits
pub character_run : {flag : Bool} {body : List Bool} {w w' : Waiting} {d : Decoder} {rest : List Bool} {rs : List Report}
    (p : Bool) → bad_waiting w ≡ false → good_parity (body_odd w) p flag ≡ true → Reading (escaped w) flag body w' →
    Run (Heard (Between w') 0) rest rs d →
    Run (Heard (Between w) 0) (p ∷ flag ∷ body ++ rest) (said (closes w) ++ rs) d
character_run {flag} {w} p passes good reading run =
    run_bit (parity_comes w p passes) (run_bit (flag_closes w p flag passes good) (body_run reading run))

-- the first NULL: after it nothing waits, and it is reported
pub first_run : {d : Decoder} {rest : List Bool} {rs : List Report} →
    Run (Heard (Between Reported) 0) rest rs d → Run Fresh (eight_bits ++ rest) (Got Null ∷ rs) d
unfolding after fed bit_answer decode_accepted hunts goes_on
first_run run = record { leaves = run.leaves; says = λ n. ap (λ (rs : List Report). Got Null ∷ rs) (run.says _) }
