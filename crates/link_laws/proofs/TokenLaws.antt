-- What a received token does before the move: an FCT adds to the credit held, an N-Char in Run is stored, and all else
-- leaves the stores as they were.
-- Assumes nothing.
use mathlib.Core.Path.{◌≡◌, refl, sym}
use mathlib.Core.Bool.{Bool, true, false, not, ◌||◌, ◌&&◌, true≢false}
use mathlib.Core.List.{List, [], ◌∷◌, append-nil}
use Prim.Native.Nat.{ℕ, ◌+◌, ◌-◌, ◌≤◌}
use native.Mathlib.Omega.{arith}
use lib.ListN.{length}
use borrow.Author.Tests.{ltb-false, eqb-false, lt-leb, not-false}
use Rattle.vocabulary.specs.Choice.{pick}
use Rattle.vocabulary.specs.Tokens.{bad_char}
use Rattle.vocabulary.specs.declared.Token.{Token}
use Rattle.vocabulary.specs.declared.Token.TheVariants.{Null, Fct, NChar, TimeCode}
use Rattle.vocabulary.specs.NChars.{read_as, above_eep}
use Rattle.store.specs.Ring.{bad_store, free, full}
use Rattle.store.specs.Changes.{put_store}
use Rattle.store.proofs.RingLaws.{put_good, put_keeps_length, put_appends, put_len}
use Rattle.store.proofs.OrLaws.{or_right}
use Rattle.time.specs.declared.Time.{Time}
use Rattle.link.specs.Ends.{End}
use Rattle.link.specs.Moves.{is_state}
use Rattle.link.specs.Credit.{passes56, none_given}
use Rattle.link.specs.Received.{fct_effect, stores_n_char, n_char_effect, time_code_effect}
use Rattle.link.specs.Received.{ignores_all, ignores_token, heard_effect, token_effect, heard_places, token_places}
use Rattle.link.specs.Calls.{with_link, after_token}
use Rattle.link.specs.declared.LinkState.TheVariants.{Connecting, Run}
use Rattle.link.specs.declared.Event.TheVariants.{Quiet, GotFct, GotNChar, GotTimeCode, CreditError}
use Rattle.link.specs.Records.{Effect, Link}
use Rattle.link_laws.specs.Tokens.{n_chars_on}
use Rattle.link_laws.specs.NothingLost.{heard_by, tx_waits}
use Rattle.link_laws.proofs.EndLaws.{is_late, Good, still_between, receive_changed, transmit_changed}
use Rattle.link_laws.proofs.PassLaws.{sends_none, is_told, stores_stay}
use Rattle.link_laws.proofs.TestLaws.{either_way}
use Rattle.link_laws.proofs.EffectLaws.{Effected, effected, nothing_done}

-- a token that is not ignored, and that credit covers: the others change nothing before the move
abbrev pub heeds : Link → Token → Bool
heeds l Null = not (ignores_token l Null)
heeds l Fct = not (ignores_token l Fct) && (is_late l.stage.state && not (passes56 l.credit.held.0))
heeds l (NChar n) = not (ignores_token l (NChar n)) && stores_n_char l
heeds l (TimeCode v) = not (ignores_token l (TimeCode v))

abbrev pub heeded : Link → Token → List Token
heeded l t = pick (heeds l t) (t ∷ []) []

-- where an FCT counts, credit may be held until the move
counts_then : (connecting run : Bool) → connecting || run ≡ true → run || connecting && true ≡ false → ⊥
counts_then true true h k = true≢false k
counts_then true false h k = true≢false k
counts_then false true h k = true≢false k
counts_then false false h k = true≢false (sym h)

module _ (e : End) (g : Good e) (time : Time) where
  abbrev Heard : Token → Type 0
  Heard t =
      Effected (heard_effect (length e.rx) e.link time t).event e
      (record {
        link = (heard_effect (length e.rx) e.link time t).link;
        rx = heard_places e.rx e.link t;
        tx = e.tx;
      })
      (heeded e.link t) []

  null_heard : ignores_token e.link Null ≡ false → Heard Null
  null_heard heard =
      rw heard
      (effected (still_between Quiet g) refl refl refl
      (stores_stay refl refl (omega arith) (omega arith) (sends_none refl) (is_told Null refl) tt))

  -- what is not ignored, and no NULL, comes when a NULL is known
  known : ignores_all e.link || not e.link.stage.gotnull ≡ false → e.link.stage.gotnull ≡ true
  known heard = not-false e.link.stage.gotnull (or_right (ignores_all e.link) _ heard)

  time_code_heard : (v : ℕ) → ignores_token e.link (TimeCode v) ≡ false → Heard (TimeCode v)
  unfolding time_code_effect
  time_code_heard v heard =
      rw heard
      (either_way (λ (f : Effect). Effected f.event e (with_link e f.link) (TimeCode v ∷ []) [])
      (is_state e.link.stage.state Run) _ _ (λ h. told) (λ h. told))
    where
      told : Effected GotTimeCode e e (TimeCode v ∷ []) []
      told =
          effected (still_between GotTimeCode g) refl refl refl
          (stores_stay refl refl (omega arith) (omega arith) (sends_none refl) (is_told (TimeCode v) (known heard)) tt)

  fct_heard : ignores_token e.link Fct ≡ false → Heard Fct
  unfolding fct_effect
  fct_heard heard = go (is_late e.link.stage.state) (passes56 e.link.credit.held.0) refl refl
    where
      go : (late past : Bool) → is_late e.link.stage.state ≡ late → passes56 e.link.credit.held.0 ≡ past → Heard Fct
      go false past r z = rw (r, heard) (nothing_done e g GotFct)
      go true true r z = rw (r, z, heard) (nothing_done e g CreditError)
      go true false r z =
          rw (r, z, heard)
          (effected
          (record {
            sound =
                transmit_changed g.sound refl g.sound.tx_good (ltb-false 56 (e.link.credit.held.0 + 8) z);
            held_where =
                λ h. absurd
                (counts_then (is_state e.link.stage.state Connecting) (is_state e.link.stage.state Run) r h);
            timer_below = λ h. g.timer_below;
          })
          refl refl refl
          (stores_stay refl refl (omega arith) (omega arith) (sends_none refl) (is_told Fct (known heard)) tt))

  n_char_heard : (n : ℕ) → above_eep n ≡ false → ignores_token e.link (NChar n) ≡ false → Heard (NChar n)
  unfolding n_char_effect
  n_char_heard n small heard = go (is_state e.link.stage.state Run) (none_given e.link.credit.given.0) refl refl
    where
      go : (run none : Bool) → is_state e.link.stage.state Run ≡ run →
          none_given e.link.credit.given.0 ≡ none → Heard (NChar n)
      go false none r z = rw (r, heard) (nothing_done e g GotNChar)
      go true true r z = rw (r, z, heard) (nothing_done e g CreditError)
      go true false r z =
          let size : ℕ = length e.rx in
          let good : bad_store size e.link.rx ≡ false = g.sound.rx_good in
          let some : e.link.credit.given.0 ≡ 0 → ⊥ = eqb-false e.link.credit.given.0 0 z in
          let room : e.link.credit.given.0 + 1 ≤ free size e.link.rx = g.sound.given_room some in
          let not_full : full size e.link.rx ≡ false = lt-leb size e.link.rx.len (omega arith) in
          let longer : (put_store size e.link.rx n).len ≡ e.link.rx.len + 1 = put_len size e.link.rx n good not_full in
          let left : e.link.credit.given.0 - 1 + 1 ≤ free size (put_store size e.link.rx n) = omega (arith, some) in
          let read : read_as n ≡ n = rw small in
          rw (r, z, heard)
          (effected
          (record {
            sound =
                receive_changed g.sound (put_keeps_length e.rx e.link.rx n)
                (put_good size e.link.rx n good) (omega (arith, g.sound.given_most))
                (λ h. omega (arith, g.sound.given_where h)) (λ h. left) (λ h. left);
            held_where = (still_between GotNChar g).held_where;
            timer_below = λ h. g.timer_below;
          })
          refl (put_keeps_length e.rx e.link.rx n) refl
          (record {
            held = omega arith;
            given = omega (arith, some);
            transmit = append-nil (tx_waits e);
            receive = rw (put_appends e.rx e.link.rx n good not_full, read);
            opens = sends_none refl;
            hears = is_told (NChar n) (known heard);
            whole = tt;
          }))

  heard_effect_lem : (t : Token) → bad_char t ≡ false → ignores_token e.link t ≡ false → Heard t
  heard_effect_lem Null small heard = null_heard heard
  heard_effect_lem Fct small heard = fct_heard heard
  heard_effect_lem (NChar n) small heard = n_char_heard n small heard
  heard_effect_lem (TimeCode v) small heard = time_code_heard v heard

  ignored_unheeded : (t : Token) → ignores_token e.link t ≡ true → heeded e.link t ≡ []
  ignored_unheeded Null h = rw h
  ignored_unheeded Fct h = rw h
  ignored_unheeded (NChar n) h = rw h
  ignored_unheeded (TimeCode v) h = rw h

  abbrev pub HearsToken : Token → Type 0
  HearsToken t =
      Effected (after_token e time t).event e
      (record { link = (after_token e time t).link; rx = token_places e.rx e.link t; tx = e.tx })
      (heeded e.link t) []

  pub token_effect_lem : (t : Token) → bad_char t ≡ false → HearsToken t
  unfolding token_effect token_places
  token_effect_lem t small = go (ignores_token e.link t) refl
    where
      go : (ignored : Bool) → ignores_token e.link t ≡ ignored → HearsToken t
      go true h = rw (h, ignored_unheeded t h) (nothing_done e g Quiet)
      go false h = rw h (heard_effect_lem t small h)

-- the N-Chars among those heeded are those that are stored
pub heeded_stored : (l : Link) (t : Token) → n_chars_on (heeded l t) ≡ heard_by l t
heeded_stored l Null = either_way (λ (ts : List Token). n_chars_on ts ≡ []) (heeds l Null) _ _ (λ h. refl) (λ h. refl)
heeded_stored l Fct = either_way (λ (ts : List Token). n_chars_on ts ≡ []) (heeds l Fct) _ _ (λ h. refl) (λ h. refl)
heeded_stored l (NChar n) = go (heeds l (NChar n))
  where
    go : (b : Bool) → n_chars_on (pick b (NChar n ∷ []) []) ≡ pick b (n ∷ []) []
    go true = refl
    go false = refl
heeded_stored l (TimeCode v) =
    either_way (λ (ts : List Token). n_chars_on ts ≡ []) (heeds l (TimeCode v)) _ _ (λ h. refl) (λ h. refl)
