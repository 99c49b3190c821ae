-- The tests of a port's words, read from its rows.
-- Assumes nothing.
use Rattle.std.proofs.Common.{◌≡◌, ℕ, ◌+◌, ◌*◌, ◌<◌, ◌&&◌, ◌||◌, List, Some, true, ltb, arith}
use native.Mathlib.Decide.{dec_lt}
use borrow.Author.Tests.{lt-ltb, le-ltb}
use Rattle.words.specs.Words.{word_at}
use Rattle.router_ports.specs.Ports.{mode_at, output_at}
use Rattle.router_ports.specs.Refusals.{is_owner, is_routed}
use Rattle.router_ports.specs.RouterWords.{row_in, router_of}
use Rattle.router_ports.specs.StateWords.{held_by, routed_to, bad_mode, bad_owner, bad_input_in, bad_output_in, bad_port_in}
use Rattle.router_ports.proofs.RowLaws.{row_is, row_within}
use Rattle.router_ports.proofs.StateWordsLaws.{held_is, routed_to_is}

module _ (words : List ℕ) where
  held_anywhere : (o i : ℕ) → held_by words o i ≡ is_owner (output_at (router_of words) o).owner i
  held_anywhere o i = go (dec_lt o 11)
    where
      go : Dec (o < 11) → held_by words o i ≡ is_owner (output_at (router_of words) o).owner i
      go (yes l) = held_is words o i l
      go (no l) = rw (le-ltb o 11 (omega (arith, l)))

  routed_anywhere : (i o : ℕ) → routed_to words i o ≡ is_routed (mode_at (router_of words) i) o
  routed_anywhere i o = go (dec_lt i 11)
    where
      go : Dec (i < 11) → routed_to words i o ≡ is_routed (mode_at (router_of words) i) o
      go (yes l) = routed_to_is words i o l
      go (no l) = rw (le-ltb i 11 (omega (arith, l)))

  module _ (p : ℕ) (row : List ℕ) where
    input_row : row_in 0 words p ≡ Some row →
        ltb p 11 && bad_input_in words p
        ≡ bad_mode (word_at row 0) (word_at row 1) (word_at row 2)
        (is_owner (output_at (router_of words) (word_at row 1)).owner p)
    unfolding bad_input_in
    input_row is =
        let e : 0 + 3 * p ≡ 3 * p = omega arith in
        rw (
          lt-ltb p 11 (row_within 0 words p row is),
          row_is 0 words p row is (3 * p) e,
          held_anywhere (word_at words (3 * p + 1)) p,
        )

    output_row : row_in 33 words p ≡ Some row →
        ltb p 11 && bad_output_in words p
        ≡ bad_owner (word_at row 0) (word_at row 1) (word_at row 2)
        (is_routed (mode_at (router_of words) (word_at row 1)) p)
    unfolding bad_output_in
    output_row is =
        let e : 33 + 3 * p ≡ 3 * p + 33 = omega arith in
        rw (
          lt-ltb p 11 (row_within 33 words p row is),
          row_is 33 words p row is (3 * p + 33) e,
          routed_anywhere (word_at words (3 * p + 33 + 1)) p,
        )

  pub port_rows : (p : ℕ) (input output : List ℕ) → row_in 0 words p ≡ Some input → row_in 33 words p ≡ Some output →
      ltb p 11 && bad_port_in words p
      ≡ bad_mode (word_at input 0) (word_at input 1) (word_at input 2) (is_owner (output_at (router_of words) (word_at input 1)).owner p)
      || bad_owner (word_at output 0) (word_at output 1) (word_at output 2) (is_routed (mode_at (router_of words) (word_at output 1)) p)
  port_rows p input output i o =
      let within : ltb p 11 ≡ true = lt-ltb p 11 (row_within 0 words p input i) in
      rw (within, ← input_row p input i, ← output_row p output o, within)
