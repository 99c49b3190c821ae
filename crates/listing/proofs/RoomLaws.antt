-- Every listing fits the room. A line is paid for by the bits that its character took: 5 half bytes for each bit, of which a
-- decoder keeps a credit, enough for what waits in it and for the error that it may still report.
-- Assumes nothing.
use borrow.Author.Tests.{eqb-true, ltb-false}
use mathlib.Core.Path.{◌≡◌, refl, ap, ◌∙◌}
use mathlib.Core.Bool.{Bool, true, false}
use mathlib.Core.List.{List, [], ◌∷◌, ◌++◌, append-nil}
use Prim.Native.Nat.{ℕ, zero, suc, ◌+◌, ◌*◌, ◌/◌, ◌%◌, ◌≤◌, max}
use native.Mathlib.Omega.{arith}
use lib.Dec.{eqb, ltb}
use lib.ListN.{length, length-append}
use Rattle.vocabulary.specs.Choice.{pick}
use Rattle.vocabulary.specs.declared.Token.{Token}
use Rattle.vocabulary.specs.declared.Token.TheVariants.{Null, Fct, NChar, TimeCode}
use Rattle.characters.specs.Bits.{bit}
use Rattle.characters.specs.Wire.{good_parity}
use Rattle.characters.specs.Decoder.{goes_on, stops, shifted, no_bits, hunted_for, hunts, closes, escaped, body_odd, body_of, flagged, data_token, data_bit, second_bit, bit_step}
use Rattle.characters.specs.Refusals.{decoder_refusal}
use Rattle.characters.specs.Calls.{bit_answer, decode_accepted, decode_refused}
use Rattle.characters.specs.declared.reports.Report.{Report}
use Rattle.characters.specs.declared.reports.Report.TheVariants.{Got, ParityError, EscapeError, Disconnect}
use Rattle.characters.specs.declared.reports.Waiting.{Waiting}
use Rattle.characters.specs.declared.reports.Waiting.TheVariants.{Reported, Whole, Esc}
use Rattle.characters.specs.States.{Phase, Hunting, Between, Parity, Data, Control, Second, Decoder, Fresh, Heard}
use Rattle.characters.specs.States.{Stopped, Step}
use Rattle.std.proofs.Common.{Option, None, Some}
use Rattle.characters_stream.specs.Feeding.{line_of, fed}
use Rattle.listing.specs.Ascii.{ascii}
use Rattle.listing.specs.Decimal.{digit, decimal_in, decimal}
use Rattle.listing.specs.Input.{good, bits_in}
use Rattle.listing.specs.Text.{value_line, token_text, text_of}
use Rattle.listing.specs.Listing.{most_bytes, report_lines, last_line, listing, room}
use Rattle.listing.specs.Claims.{ListingsFit}
use Rattle.listing.proofs.InputLaws.{bits_few, good_in_front}
use Rattle.listing.proofs.LineLaws.{text_append}

-- what a token must have when its parity is to be closed, ten half bytes before its line is written
abbrev waits : Token → ℕ
waits Null = 12
waits Fct = 10
waits (NChar n) = pick (ltb n 256) 24 10
waits (TimeCode v) = 24

-- twice the length of a line with a number of five digits
abbrev cost : Option Report → ℕ
cost None = 0
cost (Some (Got t)) = 10 + waits t
cost (Some ParityError) = 26
cost (Some EscapeError) = 26
cost (Some Disconnect) = 12

abbrev kept : Waiting → ℕ
kept Reported = 0
kept (Whole t) = waits t
kept Esc = 0

-- by where the mark has come: the lower it stands, the more data bits have come
abbrev paid : ℕ → ℕ
paid places = max (20 * (places % 2)) (max (15 * (places / 2 % 2)) (max (10 * (places / 4 % 2)) (5 * (places / 8 % 2))))

abbrev in_body : Bool → ℕ
in_body true = 2
in_body false = 0

abbrev saved : Phase → ℕ
saved (Hunting places) = 22
saved (Between w) = kept w
saved (Parity w p) = 5 + kept w
saved (Data escape places) = paid places
saved (Control escape) = in_body escape
saved (Second escape a) = 5 + in_body escape

-- 26 half bytes are for an error's line
abbrev credit : Decoder → ℕ
credit Fresh = 48
credit (Heard p silent) = 26 + saved p
credit Stopped = 0

abbrev Pays : ℕ → Step → Type 0
Pays have step = cost step.report + credit step.decoder ≤ 5 + have

hunt_pays : (found : Bool) (places : ℕ) →
    Pays 48 (pick found (goes_on (Between Reported) (Some (Got Null))) (goes_on (Hunting places) None))
unfolding goes_on
hunt_pays true places = omega arith
hunt_pays false places = omega arith

body_pays : (w : Waiting) (flag : Bool) → Pays (26 + (5 + kept w)) (goes_on (body_of (escaped w) flag) (closes w))
unfolding goes_on
body_pays Reported true = omega arith
body_pays Reported false = omega arith
body_pays (Whole t) true = omega arith
body_pays (Whole t) false = omega arith
body_pays Esc true = omega arith
body_pays Esc false = omega arith

flag_pays : (good : Bool) (w : Waiting) (flag : Bool) →
    Pays (26 + (5 + kept w)) (pick good (goes_on (body_of (escaped w) flag) (closes w)) (stops (Some ParityError)))
unfolding goes_on stops
flag_pays true w flag = body_pays w flag
flag_pays false w flag = omega arith

at_most : (small : Bool) → pick small 24 10 ≤ 24
at_most true = omega arith
at_most false = omega arith

token_waits : (escape : Bool) (v : ℕ) → waits (data_token escape v) ≤ 24
token_waits true v = omega arith
token_waits false v = at_most (ltb v 256)

one_lower : (e x y z u : ℕ) → x ≤ 1 → y ≤ 1 → z ≤ 1 → u ≤ 1 →
    max (20 * x) (max (15 * y) (max (10 * z) (5 * u))) ≤ 5 + max (20 * e) (max (15 * x) (max (10 * y) (5 * z)))
one_lower e x y z u hx hy hz hu = omega arith

mark_moves : (places b : ℕ) → paid (places / 2 + 128 * b) ≤ 5 + paid places
mark_moves places b =
    let now = places / 2 + 128 * b in
    let first : now % 2 ≡ places / 2 % 2 = omega arith in
    let half : now / 2 ≡ places / 4 + 64 * b = omega arith in
    let second : now / 2 % 2 ≡ places / 4 % 2 = rw half (omega arith) in
    let quarter : now / 4 ≡ places / 8 + 32 * b = omega arith in
    let third : now / 4 % 2 ≡ places / 8 % 2 = rw quarter (omega arith) in
    rw (first, second, third)
    (one_lower (places % 2) (places / 2 % 2) (places / 4 % 2) (places / 8 % 2) (now / 8 % 2)
    (omega arith) (omega arith) (omega arith) (omega arith))

data_pays : (escape b odd : Bool) (places : ℕ) → eqb (places % 2) 1 ≡ odd →
    Pays (26 + paid places)
    (pick odd
    (goes_on (Between (Whole (data_token escape (shifted places b)))) None)
    (goes_on (Data escape (shifted places b)) None))
unfolding goes_on
data_pays escape b true places e =
    let last = eqb-true (places % 2) 1 e in omega (arith, token_waits escape (shifted places b))
data_pays escape b false places e =
    omega (arith, mark_moves places (bit b))

second_pays : (escape a b : Bool) → Pays (26 + (5 + in_body escape)) (second_bit escape a b)
unfolding goes_on stops
second_pays false false false = omega arith
second_pays false false true = omega arith
second_pays false true false = omega arith
second_pays false true true = omega arith
second_pays true false false = omega arith
second_pays true false true = omega arith
second_pays true true b = omega arith

-- one bit pays for what is reported on it
step_pays : (d : Decoder) (b : Bool) → Pays (credit d) (bit_step d b)
unfolding hunts flagged data_bit goes_on stops
step_pays Fresh b = hunt_pays (eqb (shifted no_bits b) hunted_for) (shifted no_bits b)
step_pays (Heard (Hunting places) silent) b = hunt_pays (eqb (shifted places b) hunted_for) (shifted places b)
step_pays (Heard (Between w) silent) b = omega arith
step_pays (Heard (Parity w p) silent) b = flag_pays (good_parity (body_odd w) p b) w b
step_pays (Heard (Data escape places) silent) b = data_pays escape b (eqb (places % 2) 1) places refl
step_pays (Heard (Control escape) silent) b = omega arith
step_pays (Heard (Second escape a) silent) b = second_pays escape a b
step_pays Stopped b = omega arith

answer_pays : (d : Decoder) (b : Bool) → cost (bit_answer d b).report + credit (bit_answer d b).decoder ≤ 5 + credit d
unfolding bit_answer decode_accepted decode_refused
answer_pays d b = either (eqb (decoder_refusal d) 0)
  where
    either : (accepted : Bool) →
        let answer = pick accepted (decode_accepted (bit_step d b)) (decode_refused d (decoder_refusal d)) in
        cost answer.report + credit answer.decoder ≤ 5 + credit d
    either true = step_pays d b
    either false = omega arith

decimal_short : (places n : ℕ) → length (decimal_in places n) ≤ places
unfolding decimal_in
decimal_short zero n = omega arith
decimal_short (suc places) n = either (ltb n 10) (decimal_short places (n / 10))
  where
    either : (small : Bool) → length (decimal_in places (n / 10)) ≤ places →
        length (pick small (digit n ∷ []) (decimal_in places (n / 10) ++ digit (n % 10) ∷ [])) ≤ suc places
    either true rest = omega arith
    either false rest = omega (arith, length-append (decimal_in places (n / 10)) (digit (n % 10) ∷ []))

value_short : (word : List ℕ) (n : ℕ) → length (value_line word n) ≤ length word + 6
value_short word n =
    omega (arith, length-append word (decimal n ++ ascii "\n"), length-append (decimal n) (ascii "\n"), decimal_short 5 n)

n_char_short : (small eop : Bool) (n : ℕ) →
    2 * length (pick small (value_line (ascii "DATA ") n) (pick eop (ascii "EOP\n") (ascii "EEP\n"))) + 2 ≤ pick small 24 10
n_char_short true eop n = omega (arith, value_short (ascii "DATA ") n)
n_char_short false true n = omega arith
n_char_short false false n = omega arith

token_short : (t : Token) → 2 * length (token_text t) + 2 ≤ waits t
token_short Null = omega arith
token_short Fct = omega arith
token_short (NChar n) = n_char_short (ltb n 256) (eqb n 256) n
token_short (TimeCode v) = omega (arith, value_short (ascii "TIME ") v)

numbered : (n : ℕ) (text : List ℕ) → length ((decimal n ++ (ascii " " ++ text)) ++ []) ≤ 6 + length text
numbered n text =
    rw (append-nil (decimal n ++ (ascii " " ++ text)))
    (omega (arith, length-append (decimal n) (ascii " " ++ text), decimal_short 5 n))

line_short : (n : ℕ) (r : Option Report) → 2 * length (text_of (line_of n r)) ≤ cost r
unfolding text_of
line_short n None = omega arith
line_short n (Some (Got t)) = omega (arith, numbered n (token_text t), token_short t)
line_short n (Some ParityError) = omega (arith, numbered n (ascii "PARITY\n"))
line_short n (Some EscapeError) = omega (arith, numbered n (ascii "ESCAPE\n"))
line_short n (Some Disconnect) = omega (arith, numbered n [])

reports_short : (bits : List Bool) (d : Decoder) (n : ℕ) → 2 * length (text_of (fed d n bits)) ≤ 5 * length bits + credit d
unfolding text_of fed
reports_short [] d n = omega arith
reports_short (b ∷ bits) d n =
    let line = line_of n (bit_answer d b).report in
    let rest = fed (bit_answer d b).decoder (n + 1) bits in
    let both : length (text_of (line ++ rest)) ≡ length (text_of line) + length (text_of rest) =
    ap length (text_append line rest) ∙ length-append (text_of line) (text_of rest) in
    let later = reports_short bits (bit_answer d b).decoder (n + 1) in
    omega (arith, line_short n (bit_answer d b).report, answer_pays d b)

last_short : (input : List ℕ) → length (last_line input) ≤ 10
unfolding last_line
last_short input = either (ltb (length (good input)) (length input))
  where
    either : (bad : Bool) →
        let offset = length (good input) in
        let count = length (bits_in (good input)) in
        length (pick bad (value_line (ascii "BAD ") offset) (value_line (ascii "END ") count)) ≤ 10
    either true = value_short (ascii "BAD ") (length (good input))
    either false = value_short (ascii "END ") (length (bits_in (good input)))

pub listings_fit : ListingsFit
unfolding listing report_lines
listings_fit input = either (ltb most_bytes (length input)) refl
  where
    either : (long : Bool) → ltb most_bytes (length input) ≡ long →
        length (pick long (ascii "LONG\n") (report_lines input ++ last_line input)) ≤ room
    either true e = omega arith
    either false e =
        let whole = ltb-false most_bytes (length input) e in
        let front = (good_in_front input).1 in
        omega (
          arith,
          length-append (report_lines input) (last_line input),
          reports_short (bits_in (good input)) Fresh 1,
          bits_few (good input),
          last_short input,
        )
