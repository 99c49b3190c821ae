-- What the encoder's calls give is the tokens' bits one after the other, and of each the decoder reports the one before.
-- Assumes nothing.
use mathlib.Core.Path.{◌≡◌, refl, ap, ◌∙◌}
use mathlib.Core.Bool.{Bool, true, false}
use mathlib.Core.List.{List, [], ◌∷◌, ◌++◌, append_assoc}
use Prim.Native.Nat.{ℕ, ◌≤◌, ◌<◌}
use native.Mathlib.Omega.{arith}
use native.Mathlib.Decide.{ℕ_discrete, dec_lt}
use borrow.Author.Tests.{lt-ltb, le-ltb}
use Rattle.vocabulary.specs.Tokens.{bad_char}
use Rattle.vocabulary.specs.declared.Token.{Token}
use Rattle.vocabulary.specs.declared.Token.TheVariants.{Null, Fct, NChar, TimeCode}
use Rattle.characters.specs.Bits.{bits_of}
use Rattle.characters.specs.Wire.{Character, data8, fct as fct_character, esc as esc_character, parity_bit, good_parity}
use Rattle.characters.specs.Wire.{n_char_character, characters_of, wire, last_odd, wire_of}
use Rattle.characters.specs.Encoder.{fresh_encoder, sent}
use Rattle.characters.specs.Decoder.{body_odd, escaped, closes}
use Rattle.characters.specs.Refusals.{bad_waiting}
use Rattle.characters.specs.Calls.{encode_answer}
use Rattle.characters.proofs.BitLaws.{number_bits, bits_number}
use Rattle.characters.proofs.WireLaws.{last_of_any}
use Rattle.characters.specs.declared.reports.Report.{Report}
use Rattle.characters.specs.declared.reports.Waiting.{Waiting}
use Rattle.characters.specs.declared.reports.Waiting.TheVariants.{Reported, Whole}
use Rattle.characters.specs.States.{Encoder, Between, Decoder, Fresh, Heard}
use Rattle.characters_stream.specs.Meaning.{Reading, byte, fct, eop, eep, esc, null, time_code}
use Rattle.characters_stream.specs.Feeding.{fed}
use Rattle.characters_stream.specs.RoundTrip.{encoded, IsToken, AreTokens, without_last, reports_of, got_all, RoundTrip}
use Rattle.characters_stream.proofs.ReadingLaws.{unescaped, reading_odd}
use Rattle.characters_stream.proofs.RunLaws.{Run, said, run_none, character_run, first_run}

-- the bits of tokens, behind a body whose ones are odd or not
wires : Bool → List Token → List Bool
wires previous [] = []
wires previous (t ∷ ts) = wire_of previous t ++ wires (last_odd false (characters_of t)) ts

token_passes : (t : Token) → IsToken t → bad_char t ≡ false
token_passes Null h = refl
token_passes Fct h = refl
token_passes (NChar n) h = le-ltb 257 n h
token_passes (TimeCode v) h = refl

token_sent : (e : Encoder) (t : Token) → IsToken t → encode_answer e t ≡ sent e t
unfolding encode_answer
token_sent e t h = rw (token_passes t h)

encoded_wires : (e : Encoder) (ts : List Token) → AreTokens ts → encoded e ts ≡ wires e.odd ts
unfolding encoded wires sent
encoded_wires e [] h = refl
encoded_wires e (t ∷ ts) h =
    rw (token_sent e t h.0, bits_number (wire_of e.odd t), encoded_wires (sent e t).encoder ts h.1, ← last_of_any e.odd t)

parity_good : (previous flag : Bool) → good_parity previous (parity_bit previous flag) flag ≡ true
parity_good true true = refl
parity_good true false = refl
parity_good false true = refl
parity_good false false = refl

-- a character as the encoder sends it
sent_run : {w w' : Waiting} {d : Decoder} {rs : List Report} (c : Character) (cs : List Character) (rest : List Bool) →
    bad_waiting w ≡ false → Reading (escaped w) c.flag c.body w' →
    Run (Heard (Between w') 0) (wire (body_odd w') cs ++ rest) rs d →
    Run (Heard (Between w) 0) (wire (body_odd w) (c ∷ cs) ++ rest) (said (closes w) ++ rs) d
sent_run {w} c cs rest passes reading run =
    rw (append_assoc c.body, ← reading_odd reading)
    (character_run _ passes (parity_good (body_odd w) c.flag) reading run)

-- a token's characters are read as that token
byte_reading : (v : ℕ) → v < 256 → Reading false false (bits_of 8 v) (Whole (NChar v))
byte_reading v h = rw (number_bits 8 v h) at (byte {body = bits_of 8 v} refl)

time_reading : (v : ℕ) → v < 256 → Reading true false (bits_of 8 v) (Whole (TimeCode v))
time_reading v h = rw (number_bits 8 v h) at (time_code {body = bits_of 8 v} refl)

n_char_reading : (n : ℕ) → n ≤ 257 → Reading false (n_char_character n).flag (n_char_character n).body (Whole (NChar n))
n_char_reading n h = at (dec_lt n 256) (ℕ_discrete n 256)
  where
    at : Dec (n < 256) → Dec (n ≡ 256) →
        Reading false (n_char_character n).flag (n_char_character n).body (Whole (NChar n))
    at (yes lower) e = rw (lt-ltb n 256 lower) (byte_reading n lower)
    at (no d) (yes e) = rw e eop
    at (no d) (no d') =
        let e : n ≡ 257 = omega arith in
        rw e eep

token_run : {w : Waiting} {d : Decoder} {rs : List Report} (t : Token) (rest : List Bool) →
    IsToken t → bad_waiting w ≡ false → escaped w ≡ false →
    Run (Heard (Between (Whole t)) 0) rest rs d →
    Run (Heard (Between w) 0) (wire_of (body_odd w) t ++ rest) (said (closes w) ++ rs) d
token_run Null rest h passes plain run =
    sent_run esc_character (fct_character ∷ []) rest passes (unescaped plain esc)
    (sent_run fct_character [] rest refl null run)
token_run Fct rest h passes plain run = sent_run fct_character [] rest passes (unescaped plain fct) run
token_run (NChar n) rest h passes plain run =
    sent_run (n_char_character n) [] rest passes (unescaped plain (n_char_reading n h)) run
token_run (TimeCode v) rest h passes plain run =
    sent_run esc_character (data8 v ∷ []) rest passes (unescaped plain esc)
    (sent_run (data8 v) [] rest refl (time_reading v h) run)

-- of the tokens behind one that waits, and that one, all but the last are reported
tokens_run : (t : Token) (ts : List Token) → IsToken t → AreTokens ts →
    (d : Decoder) × Run (Heard (Between (Whole t)) 0) (wires (body_odd (Whole t)) ts) (got_all (without_last (t ∷ ts))) d
unfolding wires
tokens_run t [] h hs = (Heard (Between (Whole t)) 0, run_none)
tokens_run t (u ∷ us) h hs =
    let run = tokens_run u us hs.0 hs.1 in
    (run.0, token_run u (wires (body_odd (Whole u)) us) hs.0 (token_passes t h) refl run.1)

-- and where nothing waits, of the tokens alone
all_run : (ts : List Token) → AreTokens ts →
    (d : Decoder) × Run (Heard (Between Reported) 0) (wires false ts) (got_all (without_last ts)) d
unfolding wires
all_run [] h = (Heard (Between Reported) 0, run_none)
all_run (t ∷ ts) h =
    let run = tokens_run t ts h.0 h.1 in
    (run.0, token_run t (wires (body_odd (Whole t)) ts) h.0 refl refl run.1)

pub round_trip : RoundTrip
unfolding wires fresh_encoder
round_trip ts h =
    ap (λ (bits : List Bool). reports_of (fed Fresh 1 bits)) (encoded_wires fresh_encoder (Null ∷ ts) (tt, h))
    ∙ (first_run (all_run ts h).1).says 1
