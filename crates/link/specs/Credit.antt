-- 01, Credit: "The credit we hold and the credit we have given out are two counters that are never added together."
-- Assumes nothing.
use Rattle.std.specs.Prelude.{ℕ, ◌+◌, Bool, ◌&&◌, leb, ltb, eqb}
use Rattle.link.specs.Ends.{with_credit}
use Rattle.link.specs.Records.{Link}

-- "An FCT in Connecting or Run adds 8 to credit held; past 56 it is a credit error."
abbrev pub passes56 : ℕ → Bool
passes56 held = ltb 56 (held + 8)

abbrev pub with_held : Link → ℕ → Link
with_held l held = with_credit l (record { held = record { 0 = held }; given = l.credit.given })

abbrev pub with_given : Link → ℕ → Link
with_given l given = with_credit l (record { held = l.credit.held; given = record { 0 = given } })

-- "a received N-Char in Run takes 1 and is stored, or at 0 is a credit error and is not stored"
abbrev pub none_given : ℕ → Bool
none_given given = eqb given 0

-- "An FCT may be sent when given out is at most 48 and free places are at least given out + 9: one place is kept for an EEP."
abbrev pub may_grant : ℕ → ℕ → Bool
may_grant given free = leb given 48 && leb (given + 9) free
