-- Two ends joined by two wires, and what happens to them: a node is an end with its stores, its time record and the wire
-- that leaves it; an event is a call at the near or the far one, in the shape that link_laws gives every call on an end.
-- Assumes nothing.
use Rattle.std.specs.Prelude.{Bool, false, ◌||◌, List, [], ◌∷◌, ◌++◌, ℕ, ◌+◌, length, drop, eqb, ltb}
use Rattle.vocabulary.specs.Choice.{pick}
use Rattle.vocabulary.specs.declared.Token.{Token}
use Rattle.store.specs.Ring.{free}
use Rattle.time.specs.Time.{fresh_time}
use Rattle.time.specs.declared.Time.{Time}
use Rattle.link.specs.Ends.{End}
use Rattle.link.specs.Moves.{is_state, event_number}
use Rattle.link.specs.Calls.{after_token}
use Rattle.link.specs.declared.LinkState.TheVariants.{ErrorReset}
use Rattle.link.specs.declared.Event.TheVariants.{CreditError}
use Rattle.link_laws.specs.Tokens.{fcts_on, n_chars_on, tokens_of}
use Rattle.link_laws.specs.Calls.{Call, receive, token_in, if_accepted, Reply, Turn, turned, end_after, fresh_end}
use Rattle.link_laws.specs.Cases.{ticks}
use Rattle.link_laws.specs.NothingLost.{stored_by, taken_by, emptied_by}

-- what was counted of an end: FCTs that it sent, N-Chars that it received, what its host put and took, and whether it met a
-- credit error or a full receive store
pub record Counts : Type 0 where
  pub fcts : ℕ
  pub nchars : ℕ
  pub puts : List ℕ
  pub takes : List ℕ
  pub credit_error : Bool
  pub full_store : Bool

-- An end that "is always lent its own stores and the time record as the calls left it", with the wire that leaves it:
-- "joined by two lossless, in-order wires". A wire is the list of the tokens under way, the first to arrive first.
pub record Node : Type 0 where
  pub end : End
  pub time : Time
  pub wire : List Token
  pub counts : Counts

pub record Pair : Type 0 where
  pub near : Node
  pub far : Node

abbrev pub swap : Pair → Pair
swap p = record { near = p.far; far = p.near }

-- what may happen at an end: it receives the token that arrives first, or another call is made
pub data Act : Type 0 where
  receives : Act
  calls : Call → Act

-- "Under any mix of events"
pub data Event : Type 0 where
  at_near at_far : Act → Event

-- the call with the token that arrives first; where none has arrived there is nothing to call with
abbrev pub of_first : List Token → List Call
of_first [] = []
of_first (t ∷ ts) = receive t ∷ []

-- "Each receives only from its wire": a call with a token from elsewhere is not made
abbrev pub own_call : Call → List Token → List Call
own_call c [] = c ∷ []
own_call c (t ∷ ts) = []

-- the call that an act comes to, if any, where these tokens are on their way to the end
abbrev pub made : Act → List Token → List Call
made receives arriving = of_first arriving
made (calls c) arriving = own_call c (token_in c)

-- a call at a node, which is lent the node's time record
abbrev pub turn_at : Node → Call → Turn
turn_at n c = record { time = n.time; call = c }

abbrev pub reply_at : Node → Call → Reply
reply_at n c = turned n.end (turn_at n c)

-- the token that a call took from the wire, unless it was refused
abbrev pub tokens_received : Node → Call → List Token
tokens_received n c = if_accepted (reply_at n c).refusal (token_in c)

-- the tokens that a call sent
abbrev pub tokens_sent : Node → Call → List Token
tokens_sent n c = tokens_of (reply_at n c).sent

-- it met a credit error: the table saw one when the token came
abbrev pub credit_error_on : Node → List Token → Bool
credit_error_on n [] = false
credit_error_on n (t ∷ ts) = eqb (event_number (after_token n.end n.time t).event) (event_number CreditError)

-- it met a full receive store: it stored more N-Chars, received ones and an EEP, than it found places free or made free
abbrev pub full_store_at : Node → Call → Bool
full_store_at n c =
    ltb
    (free (length n.end.rx) n.end.link.rx + length (taken_by n.end (turn_at n c))
    + length (emptied_by n.end (turn_at n c)))
    (length (stored_by n.end (turn_at n c)))

-- the node after a call, with what passed on its wire and in its counts
unfoldable pub booked : Node → Call → Node
booked n c =
    record {
      end = (reply_at n c).end;
      time = (reply_at n c).time;
      wire = n.wire ++ tokens_sent n c;
      counts =
          record {
            fcts = n.counts.fcts + fcts_on (tokens_sent n c);
            nchars = n.counts.nchars + length (n_chars_on (tokens_received n c));
            puts = n.counts.puts ++ (reply_at n c).puts;
            takes = n.counts.takes ++ (reply_at n c).takes;
            credit_error = n.counts.credit_error || credit_error_on n (tokens_received n c);
            full_store = n.counts.full_store || full_store_at n c;
          };
    }

-- the far node: what was received has left its wire
unfoldable pub relieved : Node → List Token → Node
relieved n received =
    record { end = n.end; time = n.time; wire = drop (length received) n.wire; counts = n.counts }

-- the pair after a call at its near end, and after an act there
abbrev pub near_calls : Pair → Call → Pair
near_calls p c = record { near = booked p.near c; far = relieved p.far (tokens_received p.near c) }

abbrev pub all_called : Pair → List Call → Pair
all_called p [] = p
all_called p (c ∷ cs) = all_called (near_calls p c) cs

unfoldable pub near_acts : Act → Pair → Pair
near_acts a p = all_called p (made a p.far.wire)

-- what happens at the far end is what happens at the near end, seen from the other side
abbrev pub after : Event → Pair → Pair
after (at_near a) p = near_acts a p
after (at_far a) p = swap (near_acts a (swap p))

-- "until either goes back to ErrorReset": the event by which it does is the last that is counted
abbrev pub is_down : Node → Bool
is_down n = is_state n.end.link.stage.state ErrorReset

abbrev pub is_over : Pair → Bool
is_over p = is_down p.near || is_down p.far

unfoldable pub run : Pair → List Event → Pair
run p [] = p
run p (e ∷ es) = pick (is_over p) p (run (after e p) es)

-- "Take two fresh ends, brought to ErrorWait by ticks alone": 64 of them; "wires that are empty"; each node has a time
-- record of its own
unfoldable pub start : List ℕ → List ℕ → Node
start rx tx =
    record {
      end = end_after (fresh_end rx tx) (ticks 64);
      time = fresh_time;
      wire = [];
      counts = record { fcts = 0; nchars = 0; puts = []; takes = []; credit_error = false; full_store = false };
    }
