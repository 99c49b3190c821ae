-- The word of an encoder is its one bit, and what each token is sent as follows from it; a refused encode leaves the word.
-- Assumes nothing.
use Prim.Native.Nat.{ℕ, ◌+◌, ◌-◌, ◌*◌, ◌<◌, ◌≤◌}
use mathlib.Core.Path.{◌≡◌, refl, sym, ap}
use mathlib.Core.Bool.{Bool, true, false}
use mathlib.Core.List.{List, [], ◌∷◌}
use native.Mathlib.Omega.{arith}
use lib.Dec.{eqb, ltb}
use lib.ListN.{length}
use borrow.Author.Tests.{lt-ltb, le-ltb, ne_eqb}
use Rattle.vocabulary.specs.Choice.{pick}
use Rattle.std.specs.Prelude.{Result, Ok, Err}
use Rattle.vocabulary.specs.declared.Refusal.{Refusal}
use Rattle.vocabulary.specs.Refusals.{STATE, CHAR, number, test, first_of}
use Rattle.vocabulary.specs.declared.Token.TheVariants.{Null, Fct, NChar, TimeCode}
use Rattle.words.specs.Words.{Left, Stays, word_at, truth_word, same}
use Rattle.vocabulary.specs.declared.Token.{Token}
use Rattle.vocabulary.specs.Tokens.{bad_char}
use Rattle.words.specs.Arguments.{token_of, fitted, named}
use Rattle.words.proofs.SameLaws.{same_is, same_itself}
use Rattle.words.proofs.StayLaws.{pick_stays}
use Rattle.characters.specs.Bits.{bit, odd, bits_of}
use Rattle.characters.specs.Encoder.{sent}
use Rattle.characters.specs.Refusals.{encoder_refusal}
use Rattle.characters.specs.Calls.{encode_answer, encode_refused}
use Rattle.characters.specs.declared.encoder.Bits.{Bits}
use Rattle.characters.specs.States.{Encoder, Encoded}
use Rattle.characters.specs.EncoderWords.{encoder_words, encoder_of, is_encoder, encoded}
use Rattle.characters.specs.EncoderWords.{no_encoder, encode_left, bits_words, Sends, KeepsEncoders}
use Rattle.characters.proofs.WireLaws.{data_number, time_code_number}
use Rattle.characters.proofs.ChoiceLaws.{answered, unanswered, passed, refused}

-- the words as they were, with this refusal
abbrev kept : List ℕ → ℕ → Left
kept words n = record { refusal = n; state = words; out = 0 ∷ 0 ∷ [] }

odd_back : (b : Bool) → encoder_of (encoder_words (record { odd = b })) ≡ record { odd = b }
unfolding encoder_of
odd_back true = refl
odd_back false = refl

encoded_stays : (words : List ℕ) (e : Encoder) (accepted : Encoded) (n : ℕ) (test : Bool) → encoder_words e ≡ words →
    accepted.refusal ≡ 0 → Stays words (0 ∷ 0 ∷ []) (encoded (pick test accepted (encode_refused e n)))
unfolding encoded encode_refused
encoded_stays words e accepted n true same zero refused = absurd (refused zero)
encoded_stays words e accepted n false same zero refused = (same, refl)

stays : (words : List ℕ) (kind value : ℕ) → Stays words (0 ∷ 0 ∷ []) (encode_left words kind value)
unfolding encode_left encode_answer sent no_encoder
stays words kind value =
    pick_stays words (0 ∷ 0 ∷ []) _ _ _
    (λ p.
    encoded_stays words (encoder_of words) (sent (encoder_of words) (token_of kind value)) _
    (eqb (encoder_refusal (token_of kind value)) 0) (sym (same_is words _ p)) refl)
    (λ refused. (refl, refl))

is_encoder_lem : (e : Encoder) → is_encoder (encoder_words e) ≡ true
is_encoder_lem e = rw (odd_back e.odd) (same_itself (encoder_words e))

-- what the one word is read as
abbrev read : List ℕ → Result Bool Refusal
read words = pick (is_encoder words) (Ok (encoder_of words).odd) (Err STATE)

pub zero_read : (words : List ℕ) → length words ≡ 1 → word_at words 0 ≡ 0 → Ok false ≡ read words
unfolding same encoder_of
zero_read (x ∷ []) l h = rw h
zero_read [] l h = absurd (omega (arith, l))
zero_read (x ∷ y ∷ words) l h = absurd (omega (arith, l))

pub one_read : (words : List ℕ) → length words ≡ 1 → word_at words 0 ≡ 1 → Ok true ≡ read words
unfolding same encoder_of
one_read (x ∷ []) l h = rw h
one_read [] l h = absurd (omega (arith, l))
one_read (x ∷ y ∷ words) l h = absurd (omega (arith, l))

pub other_read : (words : List ℕ) → (word_at words 0 ≡ 0 → ⊥) → (word_at words 0 ≡ 1 → ⊥) → Err STATE ≡ read words
unfolding same encoder_of
other_read [] h k = refl
other_read (x ∷ words) h k = rw (ne_eqb x 0 h, ne_eqb x 1 k)

-- what is left: STATE where the word is none, CHAR where nothing is named, else the token is sent
module _ (words : List ℕ) (kind value : ℕ) where
  abbrev t : Token
  t = token_of kind value

  by_tests : (e : Encoder) (own bad : Bool) → (own ≡ true → words ≡ encoder_words e) →
      let n = first_of (test CHAR bad ∷ []) in
      pick own (encoded (pick (eqb n 0) (sent e t) (encode_refused e n))) (no_encoder words)
      ≡ pick own (pick bad (kept words 5) (encoded (sent e t))) (kept words 1)
  unfolding encoded encode_refused no_encoder
  by_tests e false bad own = refl
  by_tests e true true own = ap (λ (w : List ℕ). kept w 5) (sym (own refl))
  by_tests e true false own = refl

  tested : encode_left words kind value ≡ pick (is_encoder words)
      (pick (bad_char t) (kept words 5) (encoded (sent (encoder_of words) t))) (kept words 1)
  unfolding encode_left encode_answer
  tested = by_tests (encoder_of words) (is_encoder words) (bad_char t) (same_is words _)

  pub no_state : {r : Refusal} → read words ≡ Err r → kept words (number r) ≡ encode_left words kind value
  no_state e =
      let no = unanswered (is_encoder words) _ _ _ e in
      rw (tested, no.0, ← no.1)

  pub no_token : {o : Bool} {r : Refusal} → read words ≡ Ok o → named t ≡ Err r →
      kept words (number r) ≡ encode_left words kind value
  no_token e f =
      let yes = answered (is_encoder words) _ _ _ e in
      let no = refused (bad_char t) _ _ _ f in
      rw (tested, yes.0, no.0, ← no.1)

  pub is_sent : {o odd : Bool} {b : Bits} {u : Token} → read words ≡ Ok o → named t ≡ Ok u → Sends o u odd b →
      record { refusal = 0; state = truth_word odd ∷ []; out = bits_words b } ≡ encode_left words kind value
  unfolding encoded
  is_sent e f sends =
      let yes = answered (is_encoder words) _ _ _ e in
      let named = passed (bad_char t) _ _ _ f in
      rw (tested, yes.0, named.0, named.1, yes.1, sends)

-- what is answered of a token: its bits, or CHAR
pub answers_sent : (e : Encoder) (t : Token) → bad_char t ≡ false → encode_answer e t ≡ sent e t
unfolding encode_answer
answers_sent e t good = rw good

pub answers_refused : (e : Encoder) (t : Token) → bad_char t ≡ true → encode_answer e t ≡ encode_refused e 5
unfolding encode_answer
answers_refused e t bad = rw bad

pub above_refused : (e : Encoder) (v : ℕ) → 257 < v → encode_answer e (NChar (fitted v)) ≡ encode_refused e 5
above_refused e v h = answers_refused e (NChar (fitted v)) (by (ltb v 65536))
  where
    by : (b : Bool) → ltb 257 (pick b v 65535) ≡ true
    by true = lt-ltb 257 v h
    by false = refl

truth_bit : (o : Bool) → truth_word o ≡ bit o
truth_bit true = refl
truth_bit false = refl

-- a token that is sent as these bits
abbrev carried : Bool → ℕ → ℕ → Encoded
carried o n k = record { refusal = 0; encoder = record { odd = o }; bits = n; count = k }

pub null_sent : (o : Bool) → sent (record { odd = o }) Null ≡ carried false (truth_word o + 46) 8
unfolding sent
null_sent true = refl
null_sent false = refl

pub fct_sent : (o : Bool) → sent (record { odd = o }) Fct ≡ carried false (truth_word o + 2) 4
unfolding sent
fct_sent true = refl
fct_sent false = refl

pub eop_sent : (o : Bool) → sent (record { odd = o }) (NChar 256) ≡ carried true (truth_word o + 10) 4
unfolding sent
eop_sent true = refl
eop_sent false = refl

-- any larger number is read as an EEP
pub eep_sent : (o : Bool) (n : ℕ) → 256 ≤ n → (n ≡ 256 → ⊥) →
    sent (record { odd = o }) (NChar n) ≡ carried true (truth_word o + 6) 4
unfolding sent
eep_sent true n h k = rw (le-ltb n 256 h, ne_eqb n 256 k)
eep_sent false n h k = rw (le-ltb n 256 h, ne_eqb n 256 k)

pub data_sent : (o : Bool) (v : ℕ) → v < 256 →
    sent (record { odd = o }) (NChar v) ≡ carried (odd (bits_of 8 v)) (1 - truth_word o + 4 * v) 10
unfolding sent
data_sent o v h = rw (lt-ltb v 256 h, data_number o v h, truth_bit o)

pub time_code_sent : (o : Bool) (v : ℕ) → v < 256 →
    sent (record { odd = o }) (TimeCode v) ≡ carried (odd (bits_of 8 v)) (truth_word o + 30 + 64 * v) 14
unfolding sent
time_code_sent o v h = rw (time_code_number o v h, truth_bit o)

pub keeps_encoders : KeepsEncoders
keeps_encoders = record { back = λ e. odd_back e.odd; is_encoder_lem = is_encoder_lem; stays = stays }
