-- 01, Send: what goes out, and what is booked for it.
-- Assumes nothing.
use Rattle.std.specs.Prelude.{ℕ, ◌+◌, ◌-◌, Bool, true, not, ◌&&◌, List, eqb, Option, None, Some}
use Rattle.vocabulary.specs.Choice.{pick}
use Rattle.vocabulary.specs.NChars.{is_end}
use Rattle.vocabulary.specs.Tokens.{kind_of, value_of}
use Rattle.vocabulary.specs.declared.Token.{Token}
use Rattle.vocabulary.specs.declared.Token.TheVariants.{Null, Fct, NChar, TimeCode}
use Rattle.store.specs.Ring.{free, empty}
use Rattle.store.specs.Changes.{front_of, without_first}
use Rattle.link.specs.Ends.{with_stage, with_marks, with_offer, with_tx, mark_sent}
use Rattle.link.specs.Credit.{may_grant, with_held, with_given}
use Rattle.link.specs.declared.LinkState.{LinkState}
use Rattle.link.specs.declared.LinkState.TheVariants.{ErrorReset, ErrorWait, Ready, Started, Connecting, Run}
use Rattle.link.specs.Records.{Link, Sending}

-- what is sent, by number: 0 nothing, else the token's
abbrev pub sent_kind : Option Token → ℕ
sent_kind None = 0
sent_kind (Some t) = kind_of t

abbrev pub sent_value : Option Token → ℕ
sent_value None = 0
sent_value (Some t) = value_of t

-- "waiting Time-Code", by number: 0 none, 1 one, with its eight bits
abbrev pub offer_number : Option ℕ → ℕ
offer_number None = 0
offer_number (Some v) = 1

abbrev pub offer_value : Option ℕ → ℕ
offer_value None = 0
offer_value (Some v) = v

-- "FCT if it may": free places of a receive store of this size
abbrev pub grants : ℕ → Link → Bool
grants size l = may_grant l.credit.given.0 (free size l.rx)

-- "the front N-Char if credit is held"
abbrev pub has_n_char : Link → Bool
has_n_char l = not (eqb l.credit.held.0 0) && not (empty l.tx)

-- "else FCT if it may, else the front N-Char if credit is held, else NULL", with a receive store of this size and these
-- transmit places
abbrev pub choice_in_run : ℕ → List ℕ → Link → Token
choice_in_run size tx l = pick (grants size l) Fct (pick (has_n_char l) (NChar (front_of tx l.tx)) Null)

-- "Run: waiting Time-Code, else .."
abbrev pub choice_with : Option ℕ → ℕ → List ℕ → Link → Token
choice_with None size tx l = choice_in_run size tx l
choice_with (Some v) size tx l = TimeCode v

-- "ErrorReset, ErrorWait, Ready: nothing. Started: NULL. Connecting: FCT if it may, else NULL."
abbrev pub choice_in : LinkState → ℕ → List ℕ → Link → Option Token
choice_in ErrorReset size tx l = None
choice_in ErrorWait size tx l = None
choice_in Ready size tx l = None
choice_in Started size tx l = Some Null
choice_in Connecting size tx l = Some (pick (grants size l) Fct Null)
choice_in Run size tx l = Some (choice_with l.offer size tx l)

abbrev pub choice : ℕ → List ℕ → Link → Option Token
choice size tx l = choice_in l.stage.state size tx l

abbrev pub null_sent : Link → Link
null_sent l =
    with_stage l
    (record { state = l.stage.state; timer = l.stage.timer; gotnull = l.stage.gotnull; nullsent = true })

-- "A sent N-Char takes 1" of the credit held, and it leaves the transmit store with these places
abbrev pub n_char_sent : List ℕ → Link → ℕ → Link
n_char_sent tx l n =
    with_marks (with_tx (with_held l (l.credit.held.0 - 1)) (without_first tx l.tx)) (mark_sent l.marks (not (is_end n)))

-- what is booked for a token that goes out
abbrev pub booked_token : List ℕ → Link → Token → Link
booked_token tx l Null = null_sent l
booked_token tx l Fct = with_given l (l.credit.given.0 + 8)
booked_token tx l (NChar n) = n_char_sent tx l n
booked_token tx l (TimeCode v) = with_offer l None

abbrev pub booked : List ℕ → Link → Option Token → Link
booked tx l None = l
booked tx l (Some t) = booked_token tx l t

unfoldable pub sending : ℕ → List ℕ → Link → Sending
sending size tx l = record { link = booked tx l (choice size tx l); sent = choice size tx l }
