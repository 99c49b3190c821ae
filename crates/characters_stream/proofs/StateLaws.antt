-- What the decoder's state tells of the bits so far, and that a call with one more bit keeps to it: what it then reports, a
-- rule gives.
-- Assumes nothing.
use mathlib.Core.Path.{◌≡◌, refl, sym, ap, ◌∙◌}
use mathlib.Core.Bool.{Bool, true, false, true≢false}
use mathlib.Core.List.{List, [], ◌∷◌, ◌++◌, append_assoc, append-nil, head-eq_of_cons-eq, tail-eq_of_cons-eq}
use Prim.Native.Nat.{ℕ, zero, suc, ◌+◌, ◌≤◌, ◌<◌}
use native.Mathlib.Omega.{arith}
use native.Mathlib.Decide.{dec_lt}
use lib.ListN.{length, take, length-append}
use lib.Seq.{append_snoc, take-append-le, take_all, take-nil}
use Rattle.std.specs.Prelude.{Option, None, Some}
use Rattle.characters.specs.Bits.{odd, number}
use Rattle.characters.specs.Decoder.{escaped, closes, body_of, data_token}
use Rattle.characters.specs.Calls.{bit_answer}
use Rattle.characters.specs.declared.reports.Report.{Report}
use Rattle.characters.specs.declared.reports.Waiting.{Waiting}
use Rattle.characters.specs.declared.reports.Waiting.TheVariants.{Reported, Whole, Esc}
use Rattle.characters.specs.States.{Phase, Hunting, Between, Parity, Data, Control, Second, Decoder, Fresh, Heard}
use Rattle.characters.specs.States.{Stopped, Decoded}
use Rattle.characters_stream.specs.Meaning.{eight_bits, EndIn8, FirstNull, TogetherOdd}
use Rattle.characters_stream.specs.Meaning.{Reading, byte, fct, eop, eep, esc, null, time_code}
use Rattle.characters_stream.specs.Meaning.{Ended, first, next, ReportedAt, first_null, closed, bad_parity, bad_escape}
use Rattle.characters_stream.specs.Feeding.{after}
use Rattle.characters_stream.specs.Ticks.{is_error, Failed}
use Rattle.characters_stream.proofs.LastLaws.{by_last}
use Rattle.characters_stream.proofs.RegisterLaws.{marked}
use Rattle.characters_stream.proofs.CallLaws.{Answers, parity_comes, flag_closes, flag_spoils, data_comes, data_whole}
use Rattle.characters_stream.proofs.CallLaws.{control_comes, second_whole, second_spoils, stopped_stays}
use Rattle.characters_stream.proofs.ReadingLaws.{unescaped, ended_passes, ended_parity}
use Rattle.characters_stream.proofs.FeedLaws.{final, after_append, final_behind}
use Rattle.characters_stream.proofs.HuntLaws.{Hunts, fresh_hunts, hunt_decides, hunt_ends, hunt_goes_on, still_hunts}

-- the eight bits have not yet come
abbrev NoneYet : List Bool → Type 0
NoneYet bits = (k : ℕ) → k ≤ length bits → EndIn8 (take k bits) → ⊥

-- `At bits d`: d is the state in which these bits leave a fresh decoder, told by the rules
pub data At : List Bool → Decoder → Type 0 where
  fresh : At [] Fresh
  hunting : {bits : List Bool} {places : ℕ} → Hunts bits (Heard (Hunting places) 0) → NoneYet bits →
      At bits (Heard (Hunting places) 0)
  between : {bits body : List Bool} {w : Waiting} → Ended bits body w → At bits (Heard (Between w) 0)
  parity : {bits body : List Bool} {w : Waiting} (p : Bool) → Ended bits body w → At (bits ++ p ∷ []) (Heard (Parity w p) 0)
  in_byte : {bits body : List Bool} {w : Waiting} (p : Bool) (k : ℕ) (ds : List Bool) →
      Ended bits body w → TogetherOdd body p false → k + length ds ≡ 7 →
      At (bits ++ p ∷ false ∷ ds) (Heard (Data (escaped w) (number (marked k ds))) 0)
  control : {bits body : List Bool} {w : Waiting} (p : Bool) →
      Ended bits body w → TogetherOdd body p true → At (bits ++ p ∷ true ∷ []) (Heard (Control (escaped w)) 0)
  second : {bits body : List Bool} {w : Waiting} (p a : Bool) →
      Ended bits body w → TogetherOdd body p true → At (bits ++ p ∷ true ∷ a ∷ []) (Heard (Second (escaped w) a) 0)
  stopped : {bits : List Bool} → Failed bits → At bits Stopped

-- what is reported is given by a rule
abbrev pub Given : List Bool → Option Report → Type 0
Given bits None = Unit {0}
Given bits (Some r) = ReportedAt bits r

-- `Keeps bits a`: an answer a of a call keeps to that, these being the bits with its own
record Keeps (bits : List Bool) (a : Decoded) : Type 0 where
  at : At bits a.decoder
  given : Given bits a.report

keeps : {bits : List Bool} {d d' : Decoder} {b : Bool} {r : Option Report} →
    Answers d b r d' → At bits d' → Given bits r → Keeps bits (bit_answer d b)
keeps answers at given = record { at = rw answers.leaves at; given = rw answers.reports given }

none_fresh : NoneYet []
none_fresh k le (noise, e) =
    absurd (omega (arith, ap length (sym (take-nil k) ∙ e), length-append noise eight_bits))

-- with one bit more the list has the beginnings that it had, and the whole
none_before : {bits : List Bool} (b : Bool) → NoneYet bits → (k : ℕ) → k < length (bits ++ b ∷ []) →
    EndIn8 (take k (bits ++ b ∷ [])) → ⊥
none_before {bits} b none k lt found =
    let le : k ≤ length bits = omega (arith, length-append bits (b ∷ [])) in
    none k le (rw (take-append-le k bits (b ∷ []) le) at found)

none_still : {bits : List Bool} (b : Bool) → NoneYet bits → (EndIn8 (bits ++ b ∷ []) → ⊥) → NoneYet (bits ++ b ∷ [])
none_still {bits} b none other k le = by (dec_lt k (length (bits ++ b ∷ [])))
  where
    by : Dec (k < length (bits ++ b ∷ [])) → EndIn8 (take k (bits ++ b ∷ [])) → ⊥
    by (yes lt) found = none_before b none k lt found
    by (no all) found = other (rw (take_all k (bits ++ b ∷ []) (omega (arith, all))) at found)

hunt_keeps : {bits : List Bool} {d : Decoder} → Hunts bits d → NoneYet bits → (b : Bool) →
    Keeps (bits ++ b ∷ []) (bit_answer d b)
hunt_keeps {bits} {d} h none b = by (hunt_decides h b)
  where
    by : Dec (EndIn8 (bits ++ b ∷ [])) → Keeps (bits ++ b ∷ []) (bit_answer d b)
    by (yes found) =
        let null : FirstNull (bits ++ b ∷ []) = record { found = found; not_before = none_before b none } in
        keeps (hunt_ends h b found) (between (first null)) (first_null null)
    by (no other) = keeps (hunt_goes_on h b other) (hunting (still_hunts h b other) (none_still b none other)) tt

-- an error on the last bit, and one before it
failed_now : {bits : List Bool} {r : Report} → ReportedAt bits r → is_error r ≡ true → Failed bits
failed_now {bits} {r} reported error = (bits, [], r, sym (append-nil bits), reported, error)

pub failed_still : (bits more : List Bool) → Failed bits → Failed (bits ++ more)
failed_still bits more (before, rest, r, e, reported, error) =
    (before, rest ++ more, r, ap (λ (l : List Bool). l ++ more) e ∙ append_assoc before rest more, reported, error)

closing_given : {bits body : List Bool} (w : Waiting) (p flag : Bool) → Ended bits body w → TogetherOdd body p flag →
    Given (bits ++ p ∷ flag ∷ []) (closes w)
closing_given Reported p flag ended good = tt
closing_given (Whole t) p flag ended good = closed p flag ended good
closing_given Esc p flag ended good = tt

announced : {bits body : List Bool} {w : Waiting} (p flag : Bool) → Ended bits body w → TogetherOdd body p flag →
    At (bits ++ p ∷ flag ∷ []) (Heard (body_of (escaped w) flag) 0)
announced p true ended good = control p ended good
announced p false ended good = in_byte p 7 [] ended good refl

flag_keeps : {bits body : List Bool} {w : Waiting} (p flag : Bool) → Ended bits body w →
    Keeps (bits ++ p ∷ flag ∷ []) (bit_answer (Heard (Parity w p) 0) flag)
flag_keeps {bits} {body} {w} p flag ended = by (odd (body ++ p ∷ flag ∷ [])) refl
  where
    by : (t : Bool) → odd (body ++ p ∷ flag ∷ []) ≡ t →
        Keeps (bits ++ p ∷ flag ∷ []) (bit_answer (Heard (Parity w p) 0) flag)
    by true good =
        keeps (flag_closes w p flag (ended_passes ended) (ended_parity p flag ended ∙ good))
        (announced p flag ended good) (closing_given w p flag ended good)
    by false bad =
        let error = bad_parity p flag ended (λ good. true≢false (sym good ∙ bad)) in
        keeps (flag_spoils w p flag (ended_passes ended) (ended_parity p flag ended ∙ bad))
        (stopped (failed_now error refl)) error

eight_read : (escape : Bool) (body : List Bool) → length body ≡ 8 →
    Reading escape false body (Whole (data_token escape (number body)))
eight_read true body eight = time_code eight
eight_read false body eight = byte eight

byte_keeps : {bits body : List Bool} {w : Waiting} (p : Bool) (k : ℕ) (ds : List Bool) (b : Bool) →
    Ended bits body w → TogetherOdd body p false → k + length ds ≡ 7 →
    Keeps (bits ++ p ∷ false ∷ (ds ++ b ∷ [])) (bit_answer (Heard (Data (escaped w) (number (marked k ds))) 0) b)
byte_keeps {w} p zero ds b ended good seven =
    keeps (data_whole (escaped w) ds b (omega arith))
    (between
    (next p false ended good (eight_read (escaped w) (ds ++ b ∷ []) (omega (arith, length-append ds (b ∷ [])))))) tt
byte_keeps {w} p (suc k) ds b ended good seven =
    keeps (data_comes (escaped w) k ds b seven)
    (in_byte p k (ds ++ b ∷ []) ended good (omega (arith, length-append ds (b ∷ [])))) tt

-- the second bit of a control character, by whether it stands behind an ESC
second_read : {bits body : List Bool} {w w' : Waiting} (p a b : Bool) → Ended bits body w → TogetherOdd body p true →
    Reading (escaped w) true (a ∷ b ∷ []) w' →
    Keeps (bits ++ p ∷ true ∷ a ∷ b ∷ []) (bit_answer (Heard (Second (escaped w) a) 0) b)
second_read p a b ended good reading = keeps (second_whole reading) (between (next p true ended good reading)) tt

second_plain : {bits body : List Bool} {w : Waiting} (p a b : Bool) → Ended bits body w → TogetherOdd body p true →
    escaped w ≡ false → Keeps (bits ++ p ∷ true ∷ a ∷ b ∷ []) (bit_answer (Heard (Second (escaped w) a) 0) b)
second_plain p false false ended good plain = second_read p false false ended good (unescaped plain fct)
second_plain p false true ended good plain = second_read p false true ended good (unescaped plain eop)
second_plain p true false ended good plain = second_read p true false ended good (unescaped plain eep)
second_plain p true true ended good plain = second_read p true true ended good (unescaped plain esc)

second_spoilt : {bits body : List Bool} (p a b : Bool) → Ended bits body Esc → TogetherOdd body p true →
    ((a ∷ b ∷ []) ≡ (false ∷ false ∷ []) → ⊥) →
    Keeps (bits ++ p ∷ true ∷ a ∷ b ∷ []) (bit_answer (Heard (Second true a) 0) b)
second_spoilt p a b ended good other =
    let error = bad_escape p a b ended good other in
    keeps (second_spoils a b other) (stopped (failed_now error refl)) error

second_keeps : {bits body : List Bool} (w : Waiting) (p a b : Bool) → Ended bits body w → TogetherOdd body p true →
    Keeps (bits ++ p ∷ true ∷ a ∷ b ∷ []) (bit_answer (Heard (Second (escaped w) a) 0) b)
second_keeps Reported p a b ended good = second_plain p a b ended good refl
second_keeps (Whole t) p a b ended good = second_plain p a b ended good refl
second_keeps Esc p false false ended good = second_read p false false ended good null
second_keeps Esc p false true ended good =
    second_spoilt p false true ended good (λ e. true≢false (head-eq_of_cons-eq (tail-eq_of_cons-eq e)))
second_keeps Esc p true b ended good = second_spoilt p true b ended good (λ e. true≢false (head-eq_of_cons-eq e))

next_keeps : {bits : List Bool} {d : Decoder} → At bits d → (b : Bool) → Keeps (bits ++ b ∷ []) (bit_answer d b)
next_keeps fresh b = hunt_keeps fresh_hunts none_fresh b
next_keeps (hunting h none) b = hunt_keeps h none b
next_keeps (between {w} ended) b = keeps (parity_comes w b (ended_passes ended)) (parity b ended) tt
next_keeps (parity {bits} p ended) b = rw append_snoc (flag_keeps p b ended)
next_keeps (in_byte {bits} p k ds ended good seven) b =
    rw (append_assoc bits (p ∷ false ∷ ds) (b ∷ [])) (byte_keeps p k ds b ended good seven)
next_keeps (control {bits} {w} p ended good) b =
    rw (append_assoc bits (p ∷ true ∷ []) (b ∷ [])) (keeps (control_comes (escaped w) b) (second p b ended good) tt)
next_keeps (second {bits} {w} p a ended good) b =
    rw (append_assoc bits (p ∷ true ∷ a ∷ []) (b ∷ [])) (second_keeps w p a b ended good)
next_keeps (stopped {bits} failed) b = keeps (stopped_stays b) (stopped (failed_still bits (b ∷ []) failed)) tt

pub reached : (bits : List Bool) → At bits (after Fresh bits)
unfolding after
reached =
    by_last (λ (bits : List Bool). At bits (after Fresh bits)) fresh
    (λ bits b h. rw (after_append Fresh bits (b ∷ [])) (next_keeps h b).at)

-- on each bit, what the decoder reports is given by a rule
pub reports_given : (bits : List Bool) (b : Bool) → Given (bits ++ b ∷ []) (final Fresh (bits ++ b ∷ []))
unfolding final
reports_given bits b = rw (final_behind Fresh bits b []) (next_keeps (reached bits) b).given

-- a stopped decoder has reported an error; of others, one that had a bit has heard it just now
pub stopped_failed : {bits : List Bool} → At bits Stopped → Failed bits
stopped_failed (stopped failed) = failed

pub data Bitten : Decoder → Type 0 where
  going : (p : Phase) → Bitten (Heard p 0)
  gone : Bitten Stopped

pub at_bitten : {bits : List Bool} {d : Decoder} → At bits d → (bits ≡ [] → ⊥) → Bitten d
at_bitten fresh some = absurd (some refl)
at_bitten (hunting h none) some = going _
at_bitten (between ended) some = going _
at_bitten (parity p ended) some = going _
at_bitten (in_byte p k ds ended good seven) some = going _
at_bitten (control p ended good) some = going _
at_bitten (second p a ended good) some = going _
at_bitten (stopped failed) some = gone
