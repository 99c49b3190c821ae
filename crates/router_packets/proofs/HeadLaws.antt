-- An end is read as an end, and nothing else is.
-- Assumes nothing.
use mathlib.Core.Path.{◌≡◌, refl}
use mathlib.Core.Bool.{Bool, true, false}
use mathlib.Core.List.{List}
use Prim.Native.Nat.{ℕ}
use lib.Dec.{ltb, eqb}
use Rattle.vocabulary.specs.Choice.{pick}
use Rattle.vocabulary.specs.NChars.{is_end}
use Rattle.router_table.specs.Rows.{requests, is_invalid, row_at}
use Rattle.router_table.specs.Headings.{to_port, by_row, row_heading, address_heading, heading}
use Rattle.router_table.specs.declared.Heading.{Heading}
use Rattle.router_table.specs.declared.Heading.TheVariants.{End, Nowhere, Ports}

abbrev pub says_end : Heading → Bool
says_end End = true
says_end Nowhere = false
says_end (Ports d) = false

pub end_read : (table : List ℕ) (n : ℕ) → is_end n ≡ says_end (heading table n)
unfolding heading address_heading row_heading
end_read table n = go (is_end n) (ltb n 11) (ltb n 32) (is_invalid (row_at table n)) (eqb (requests (row_at table n)) 0)
  where
    go : (a b c d e : Bool) →
        a ≡ says_end (pick a End (pick b (Ports (to_port n))
        (pick c Nowhere (pick d Nowhere (pick e Nowhere (Ports (by_row (row_at table n))))))))
    go true b c d e = refl
    go false true c d e = refl
    go false false true d e = refl
    go false false false true e = refl
    go false false false false true = refl
    go false false false false false = refl
