-- An N-Char that gives ports gives at least one, and none above 10.
-- Assumes nothing.
use mathlib.Core.Path.{◌≡◌, refl}
use mathlib.Core.Bool.{Bool, true, false}
use mathlib.Core.List.{List}
use Prim.Native.Nat.{ℕ, ◌^◌, ◌<◌}
use native.Mathlib.Omega.{arith}
use lib.Dec.{ltb, ltb→lt, eqb}
use borrow.Author.Tests.{ltb-true, eqb-false}
use Rattle.vocabulary.specs.Choice.{pick}
use Rattle.vocabulary.specs.NChars.{is_end}
use Rattle.vocabulary.proofs.Below.{both, both_left, both_right, below}
use Rattle.router_table.specs.Rows.{requests, is_invalid, row_at}
use Rattle.router_table.specs.Headings.{to_port, by_row, row_heading, address_heading, heading}
use Rattle.router_table.specs.declared.Direction.{Direction}
use Rattle.router_table.specs.declared.Heading.TheVariants.{End, Nowhere, Ports}

abbrev pub SomePorts : Direction → Type 0
SomePorts d = (0 < d.ports) × (d.ports < 2048)

one_port : (p : ℕ) → p < 11 → SomePorts (to_port p)
unfolding to_port
one_port p h =
    let t = below (λ (q : ℕ). both (ltb 0 (2 ^ q)) (ltb (2 ^ q) 2048)) 11 tt p h in (
      ltb→lt 0 (2 ^ p) (both_left (ltb 0 (2 ^ p)) (ltb (2 ^ p) 2048) t),
      ltb→lt (2 ^ p) 2048 (both_right (ltb 0 (2 ^ p)) (ltb (2 ^ p) 2048) t),
    )

row_ports : (row : ℕ) (d : Direction) → row_heading row ≡ Ports d → SomePorts d
unfolding row_heading by_row
row_ports row d e = go (is_invalid row) (eqb (requests row) 0) refl e
  where
    go : (b c : Bool) → eqb (requests row) 0 ≡ c → pick b Nowhere (pick c Nowhere (Ports (by_row row))) ≡ Ports d →
        SomePorts d
    go true c w h = let z : ◌≡◌ {A = ℕ} 0 1 = cc in absurd (omega arith)
    go false true w h = let z : ◌≡◌ {A = ℕ} 0 1 = cc in absurd (omega arith)
    go false false w h =
        let same : d.ports ≡ requests row = cc in
        let some = eqb-false (requests row) 0 w in
        (omega (arith, some), omega arith)

pub some_ports : (table : List ℕ) (n : ℕ) (d : Direction) → heading table n ≡ Ports d → SomePorts d
unfolding heading address_heading
some_ports table n d e = go (is_end n) (ltb n 11) (ltb n 32) refl e
  where
    go : (a b c : Bool) → ltb n 11 ≡ b →
        pick a End (pick b (Ports (to_port n)) (pick c Nowhere (row_heading (row_at table n)))) ≡ Ports d → SomePorts d
    go true b c w h = let z : ◌≡◌ {A = ℕ} 0 1 = cc in absurd (omega arith)
    go false true c w h = let same : to_port n ≡ d = cc in rw same at (one_port n (ltb-true n 11 w))
    go false false true w h = let z : ◌≡◌ {A = ℕ} 0 1 = cc in absurd (omega arith)
    go false false false w h = row_ports (row_at table n) d h
