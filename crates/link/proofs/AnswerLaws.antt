-- The words of an answer give it back, so two answers with the same words are one.
-- Assumes nothing.
use Rattle.std.specs.Prelude.{ℕ, ◌≡◌, refl, List, Option, None, Some, eqb}
use mathlib.Core.Path.{sym, ap, ◌∙◌}
use Rattle.vocabulary.specs.Choice.{pick}
use Rattle.vocabulary.specs.declared.Token.{Token}
use Rattle.vocabulary.specs.declared.Token.TheVariants.{Null, Fct, NChar, TimeCode}
use Rattle.words.specs.Words.{word_at, truth}
use Rattle.words.proofs.NumberLaws.{truth_back}
use Rattle.link.specs.Send.{sent_kind, sent_value}
use Rattle.link.specs.Answers.{sent_words, received_words}
use Rattle.link.specs.declared.calls.Sent.{Sent}
use Rattle.link.specs.declared.calls.Received.{Received}

abbrev token_sent : ℕ → ℕ → Option Token
token_sent kind value =
    pick (eqb kind 1) (Some Null)
    (pick (eqb kind 2) (Some Fct)
    (pick (eqb kind 3) (Some (NChar value))
    (pick (eqb kind 4) (Some (TimeCode value)) None)))

token_back : (t : Option Token) → token_sent (sent_kind t) (sent_value t) ≡ t
token_back None = refl
token_back (Some Null) = refl
token_back (Some Fct) = refl
token_back (Some (NChar n)) = refl
token_back (Some (TimeCode v)) = refl

abbrev sent_in : List ℕ → Sent
sent_in words = record { discarded = word_at words 0; token = token_sent (word_at words 1) (word_at words 2) }

sent_back : (s : Sent) → sent_in (sent_words s) ≡ s
sent_back s = rw (token_back s.token)

pub one_sent : (s t : Sent) → sent_words s ≡ sent_words t → s ≡ t
one_sent s t e = sym (sent_back s) ∙ ap sent_in e ∙ sent_back t

abbrev received_in : List ℕ → Received
received_in words = record { discarded = word_at words 0; tick = truth (word_at words 1) }

received_back : (r : Received) → received_in (received_words r) ≡ r
received_back r = rw (truth_back r.tick)

pub one_received : (r s : Received) → received_words r ≡ received_words s → r ≡ s
one_received r s e = sym (received_back r) ∙ ap received_in e ∙ received_back s
