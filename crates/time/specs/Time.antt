-- 01, Time: the time counter, one small record that every link is lent.
-- Assumes nothing.
use Rattle.std.specs.Prelude.{ℕ, ◌+◌, ◌%◌, Bool, true, false, eqb, ltb}
use Rattle.vocabulary.specs.Choice.{pick}
use Rattle.time.specs.declared.Time.{Time}

-- "It starts at 0."
unfoldable pub fresh_time : Time
fresh_time = record { count = 0; ticked = false }

-- 1 STATE: "time count above 63"
abbrev pub bad_time : Time → Bool
bad_time t = ltb 63 t.count

-- "whose low six bits are the count plus 1, modulo 64"
abbrev pub is_next : Time → ℕ → Bool
is_next t code = eqb (code % 64) ((t.count + 1) % 64)

-- "A Time-Code in Run whose low six bits are the count plus 1, modulo 64, sets the count and gives a tick out; any other is
-- dropped." The record says of the last Time-Code whether it gave a tick.
unfoldable pub time_after : Time → ℕ → Time
time_after t code =
    pick (is_next t code) (record { count = code % 64; ticked = true }) (record { count = t.count; ticked = false })
