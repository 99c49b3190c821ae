-- What a send and a received token answer, as the words that C gets; zeros where the call is refused.
-- Assumes nothing.
use Rattle.std.specs.Prelude.{ℕ, false, List, [], ◌∷◌, None}
use Rattle.words.specs.Words.{truth_word}
use Rattle.link.specs.Send.{sent_kind, sent_value}
use Rattle.link.specs.declared.calls.Sent.{Sent}
use Rattle.link.specs.declared.calls.Received.{Received}

-- the discarded, the token's number, 0 for none, and its value
abbrev pub sent_words : Sent → List ℕ
sent_words s = s.discarded ∷ sent_kind s.token ∷ sent_value s.token ∷ []

abbrev pub nothing_sent : Sent
nothing_sent = record { discarded = 0; token = None }

-- the discarded, and 1 for a tick out
abbrev pub received_words : Received → List ℕ
received_words r = r.discarded ∷ truth_word r.tick ∷ []

abbrev pub nothing_received : Received
nothing_received = record { discarded = 0; tick = false }
