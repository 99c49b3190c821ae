-- Two ends joined: the statement, to be read against its text clause by clause. It speaks of the calls as they are
-- promised. The whole is `TwoEndsJoined`, at the end; two of its parts show that the first is not met by refusing all
-- calls or by never leaving ErrorReset.
-- Assumes nothing.
use Rattle.std.specs.Prelude.{◌≡◌, false, List, [], ◌∷◌, ◌++◌, ℕ, zero, suc, ◌+◌, ◌*◌, ◌≤◌, ◌<◌, length, replicate}
use Rattle.vocabulary.specs.NChars.{EOP}
use Rattle.vocabulary.specs.declared.Token.{Token}
use Rattle.store.specs.Ring.{free}
use Rattle.link.specs.Refusals.{bad_rx_size, bad_tx_size}
use Rattle.link.specs.Calls.{both, receiving}
use Rattle.link.specs.declared.LinkState.TheVariants.{Run}
use Rattle.link_laws.specs.Tokens.{fcts_on, n_chars_on}
use Rattle.link_laws.specs.Calls.{tick, send, take, put}
use Rattle.link_laws.specs.Cases.{link_start}
use Rattle.link_joined.specs.Pair.{Node, Pair, Act, receives, calls, Event, at_near, at_far, is_over, run, start}

-- "the sender's credit, plus eight for each FCT on its way to it, plus the N-Chars on their way from it"
abbrev pub under_way : Node → Node → ℕ
under_way s r = s.end.link.credit.held.0 + 8 * fcts_on r.wire + length (n_chars_on s.wire)

-- from a sender s to a receiver r, until either goes back to ErrorReset
pub record Balanced (s r : Node) : Type 0 where
  -- "equals eight for each FCT the receiver sent less the N-Chars it received"
  pub balance : under_way s r + r.counts.nchars ≡ 8 * r.counts.fcts
  -- "That sum never passes 56"
  pub at_most56 : under_way s r ≤ 56
  -- "and, while above zero, stays below the receiver's free places"
  pub room : 0 < under_way s r → under_way s r < free (length r.end.rx) r.end.link.rx

-- "So neither end meets a credit error or a full receive store"
pub record Unharmed (n : Node) : Type 0 where
  pub no_credit_error : n.counts.credit_error ≡ false
  pub no_full_store : n.counts.full_store ≡ false

-- "and the far host takes, in order, a leading part of what the near host put"
pub record Delivers (s r : Node) : Type 0 where
  pub rest : List ℕ
  pub delivered : r.counts.takes ++ rest ≡ s.counts.puts

-- of a pair, "in each direction"; the event that ends the stretch counts too, except for the sum
pub record Promise (p : Pair) : Type 0 where
  pub there : is_over p ≡ false → Balanced p.near p.far
  pub back : is_over p ≡ false → Balanced p.far p.near
  pub near_unharmed : Unharmed p.near
  pub far_unharmed : Unharmed p.far
  pub delivers_there : Delivers p.near p.far
  pub delivers_back : Delivers p.far p.near

-- sizes that are not refused as STORE
pub record Allowed (rx tx : List ℕ) : Type 0 where
  pub receive : bad_rx_size (length rx) ≡ false
  pub transmit : bad_tx_size (length tx) ≡ false

-- a claim of two ends with any stores of such sizes, after any list of events
abbrev pub AfterAnyRun : (Pair → Type 0) → Type 0
AfterAnyRun Claim =
    (rx tx rx' tx' : List ℕ) → Allowed rx tx → Allowed rx' tx' → (events : List Event) →
    Claim (run (record { near = start rx tx; far = start rx' tx' }) events)

-- Beside the text: none of this comes of refusals. Until either goes back to ErrorReset a tick, a fault, a control change, a
-- send, a reset and the token that arrives are accepted.
pub record Accepting (n : Node) (arriving : List Token) : Type 0 where
  pub calls : both n.end ≡ 0
  pub token : (t : Token) (left : List Token) → arriving ≡ t ∷ left → receiving n.end n.time t ≡ 0

pub record NoneRefused (p : Pair) : Type 0 where
  pub near_accepts : is_over p ≡ false → Accepting p.near p.far.wire
  pub far_accepts : is_over p ≡ false → Accepting p.far p.near.wire

-- One run, of stores of nine places: both ends go to Ready, then with LinkStart to Started, Connecting and Run; each sends a
-- packet, and the other host takes it.
abbrev pub at_both : Act → List Event
at_both a = at_near a ∷ at_far a ∷ []

abbrev pub repeated : ℕ → List Event → List Event
repeated zero es = []
repeated (suc count) es = es ++ repeated count es

abbrev pub both_run : List Event
both_run =
    repeated 128 (at_both (calls tick)) ++ at_both (calls link_start.call)
    ++ repeated 2 (at_both (calls send) ++ at_both receives)

abbrev pub packets_pass : List Event
packets_pass =
    at_near (calls (put 65)) ∷ at_near (calls (put EOP)) ∷ at_far (calls (put 66)) ∷ at_far (calls (put EOP))
    ∷ repeated 2 (at_both (calls send) ++ at_both receives) ++ repeated 2 (at_both (calls take))

abbrev pub nine_places : Node
nine_places = start (replicate 9 0) (replicate 9 0)

abbrev pub carried : Pair
carried = run (record { near = nine_places; far = nine_places }) (both_run ++ packets_pass)

pub record Carries : Type 0 where
  pub near_runs : carried.near.end.link.stage.state ≡ Run
  pub far_runs : carried.far.end.link.stage.state ≡ Run
  pub near_took : carried.near.counts.takes ≡ 66 ∷ EOP ∷ []
  pub far_took : carried.far.counts.takes ≡ 65 ∷ EOP ∷ []

pub record TwoEndsJoined : Type 0 where
  pub promised : AfterAnyRun Promise
  pub accepted : AfterAnyRun NoneRefused
  pub carries : Carries
