-- What passes by a call: credit and N-Chars go over from an end to the wire and to its host, or back; none comes of
-- nothing or is lost. And NULL: whether one was sent, and whether one is known.
-- Assumes nothing.
use mathlib.Core.Path.{◌≡◌, refl, sym, ◌∙◌}
use mathlib.Core.Bool.{Bool, true, false}
use mathlib.Core.List.{List, [], ◌∷◌, ◌++◌, append-nil, append-eq-nil_iff}
use Prim.Native.Nat.{ℕ, ◌+◌, ◌*◌}
use native.Mathlib.Omega.{arith}
use lib.ListN.{length}
use Rattle.vocabulary.specs.Tokens.{bad_char}
use Rattle.vocabulary.specs.declared.Token.{Token}
use Rattle.vocabulary.specs.declared.Token.TheVariants.{Null}
use Rattle.link.specs.Ends.{End}
use Rattle.link.specs.Records.{Credit}
use Rattle.link_laws.specs.Tokens.{fcts_on, n_chars_on}
use Rattle.link_laws.specs.NothingLost.{rx_waits, tx_waits}
use Rattle.link_laws.proofs.EndLaws.{is_late}
use Rattle.link_laws.proofs.ChangeLaws.{Traffic, Change}

-- a NULL is sent, or what else is sent goes out in Connecting or Run
pub data Opens (late before after : Bool) : List Token → Type 0 where
  sends_none : after ≡ before → Opens late before after []
  sends_null : after ≡ true → Opens late before after (Null ∷ [])
  sends_late : (t : Token) → late ≡ true → after ≡ before → Opens late before after (t ∷ [])

-- what is heard is a NULL, or one is known
pub data Hears (before after : Bool) : List Token → Type 0 where
  hears_none : after ≡ before → Hears before after []
  is_told : (t : Token) → after ≡ true → Hears before after (t ∷ [])

-- every token is one that a received token may be
abbrev pub Whole : List Token → Type 0
Whole [] = Unit {0}
Whole (t ∷ ts) = (bad_char t ≡ false) × Whole ts

-- of the two marks of NULL, the credits and what waits in both stores, before and after
pub record Passing (late sent_null sent_null' got_null got_null' : Bool) (c c' : Credit) (tx tx' rx rx' : List ℕ)
    (heard sent : List Token) (puts takes : List ℕ) : Type 0 where
  pub held : c.held.0 + 8 * fcts_on heard ≡ c'.held.0 + length (n_chars_on sent)
  pub given : c.given.0 + 8 * fcts_on sent ≡ c'.given.0 + length (n_chars_on heard)
  pub transmit : tx ++ puts ≡ n_chars_on sent ++ tx'
  pub receive : rx ++ n_chars_on heard ≡ takes ++ rx'
  pub opens : Opens late sent_null sent_null' sent
  pub hears : Hears got_null got_null' heard
  pub whole : Whole sent

-- from one end to another: the tokens heard and sent, and what the host put and took
abbrev pub Passes : End → End → List Token → List Token → List ℕ → List ℕ → Type 0
Passes e e' heard sent puts takes =
    Passing (is_late e.link.stage.state) e.link.stage.nullsent e'.link.stage.nullsent
    e.link.stage.gotnull e'.link.stage.gotnull e.link.credit e'.link.credit (tx_waits e) (tx_waits e')
    (rx_waits e) (rx_waits e') heard sent puts takes

-- tokens that carry no N-Char
pub stores_stay : {late n n' g g' : Bool} {c c' : Credit} {tx rx : List ℕ} {heard sent : List Token} →
    n_chars_on heard ≡ [] → n_chars_on sent ≡ [] → c.held.0 + 8 * fcts_on heard ≡ c'.held.0 →
    c.given.0 + 8 * fcts_on sent ≡ c'.given.0 → Opens late n n' sent → Hears g g' heard → Whole sent →
    Passing late n n' g g' c c' tx tx rx rx heard sent [] []
stores_stay {tx = tx} {rx = rx} none none' held given opens hears whole =
    record {
      held = rw none' (omega (arith, held));
      given = rw none (omega (arith, given));
      transmit = rw none' (append-nil tx);
      receive = rw none (append-nil rx);
      opens = opens;
      hears = hears;
      whole = whole;
    }

-- what the host puts and takes
pub host_passes : {late n g : Bool} {c : Credit} {tx tx' rx rx' puts takes : List ℕ} → tx ++ puts ≡ tx' →
    rx ≡ takes ++ rx' → Passing late n n g g c c tx tx' rx rx' [] [] puts takes
host_passes {rx = rx} transmit receive =
    record {
      held = refl;
      given = refl;
      transmit = transmit;
      receive = append-nil rx ∙ receive;
      opens = sends_none refl;
      hears = hears_none refl;
      whole = tt;
    }

pub nothing_passes : {late n g : Bool} {c : Credit} {tx rx : List ℕ} → Passing late n n g g c c tx tx rx rx [] [] [] []
nothing_passes {tx = tx} = host_passes (append-nil tx) refl

-- what passes is a change of the stores in which nothing is thrown away
abbrev pub traffic_in : List Token → List Token → List ℕ → List ℕ → Traffic
traffic_in heard sent puts takes =
    record {
      puts = puts;
      sends = n_chars_on sent;
      discards = 0;
      stores = n_chars_on heard;
      takes = takes;
      empties = [];
    }

pub passing_change : {late n n' g g' discarding : Bool} {c c' : Credit} {tx tx' rx rx' : List ℕ} {heard sent : List Token}
    {puts takes : List ℕ} → Passing late n n' g g' c c' tx tx' rx rx' heard sent puts takes →
    (discarding ≡ true → tx' ≡ []) → Change tx rx tx' rx' discarding (traffic_in heard sent puts takes)
passing_change p none =
    record {
      none_waits = none;
      away = [];
      counted = refl;
      transmit = p.transmit;
      receive = p.receive;
    }

-- while puts are discarded nothing waits, and so nothing is sent
pub still_none : {late n n' g g' : Bool} {c c' : Credit} {tx tx' rx rx' : List ℕ} {heard sent : List Token}
    {takes : List ℕ} → Passing late n n' g g' c c' tx tx' rx rx' heard sent [] takes → tx ≡ [] → tx' ≡ []
still_none {tx = tx} {tx' = tx'} {sent = sent} p none =
    ((append-eq-nil_iff {p = n_chars_on sent} {q = tx'}).0 (sym p.transmit ∙ append-nil tx ∙ none)).1
