-- 01, The ten refusals, 1 STATE, read off the words of a router: words that mean no mode or owner, and those that mean one
-- which is refused.
-- Assumes nothing.
use Rattle.std.specs.Prelude.{ℕ, ◌+◌, ◌*◌, Bool, true, false, not, ◌||◌, List, eqb, ltb}
use Rattle.vocabulary.specs.Choice.{pick}
use Rattle.words.specs.Words.{word_at}
use Rattle.router_ports.specs.Layout.{PORTS, outputs_from}
use Rattle.router_ports.specs.Refusals.{bad_ports}
use Rattle.router_ports.specs.RouterWords.{router_of, is_router}

-- what every call tests first: these words keep no router, or one that is refused
abbrev pub bad_state : List ℕ → Bool
bad_state words = not (is_router words) || bad_ports (router_of words)

-- an output whose owner is input i, an input that is routed to output o
abbrev pub held_by : List ℕ → ℕ → ℕ → Bool
held_by words o i =
    pick (ltb o PORTS)
    (pick (eqb (word_at words (3 * o + outputs_from)) 1) (eqb (word_at words (3 * o + outputs_from + 1)) i) false) false

abbrev pub routed_to : List ℕ → ℕ → ℕ → Bool
routed_to words i o =
    pick (ltb i PORTS) (pick (eqb (word_at words (3 * i)) 2) (eqb (word_at words (3 * i + 1)) o) false) false

-- the words of an input: idle and spilling have no value, a set of ports has 11 bits, a routed input owns its output
abbrev pub bad_mode : ℕ → ℕ → ℕ → Bool → Bool
bad_mode n value high held =
    pick (eqb n 0) (pick (eqb value 0) (not (eqb high 0)) true)
    (pick (eqb n 1) (pick (eqb value 0) true (pick (ltb 2047 value) true (ltb 1 high)))
    (pick (eqb n 2) (pick (eqb high 0) (not held) true)
    (pick (eqb n 3) (pick (eqb value 0) (not (eqb high 0)) true) true)))

unfoldable pub bad_input_in : List ℕ → ℕ → Bool
bad_input_in words i =
    bad_mode (word_at words (3 * i)) (word_at words (3 * i + 1)) (word_at words (3 * i + 2))
    (held_by words (word_at words (3 * i + 1)) i)

-- the words of an output: a free one names no input, the owner of another is routed to it
abbrev pub bad_owner : ℕ → ℕ → ℕ → Bool → Bool
bad_owner n input last routed =
    pick (ltb 10 last) true (pick (eqb n 0) (not (eqb input 0)) (pick (eqb n 1) (not routed) true))

unfoldable pub bad_output_in : List ℕ → ℕ → Bool
bad_output_in words o =
    bad_owner (word_at words (3 * o + outputs_from)) (word_at words (3 * o + outputs_from + 1))
    (word_at words (3 * o + outputs_from + 2)) (routed_to words (word_at words (3 * o + outputs_from + 1)) o)

abbrev pub bad_port_in : List ℕ → ℕ → Bool
bad_port_in words p = bad_input_in words p || bad_output_in words p
