-- 01, The ten refusals, 1 STATE, of the router: "a port number above 10 in the router's state; an output whose owner isn't
-- routed to it, or the reverse; a waiting input that wants no port"; "a store's front at or past its size, or its length
-- beyond it". The last needs the size, and comes after 2.
-- Assumes nothing.
use Rattle.std.specs.Prelude.{ℕ, Bool, false, not, ◌||◌, List, eqb, ltb, Option, None, Some}
use Rattle.store.specs.Ring.{bad_store}
use Rattle.router_ports.specs.Each.{any}
use Rattle.router_ports.specs.Ports.{mode_at, output_at, store_at}
use Rattle.router_ports.specs.Places.{size_in}
use Rattle.router_ports.specs.declared.Wanted.{Wanted}
use Rattle.router_ports.specs.declared.Mode.{Mode}
use Rattle.router_ports.specs.declared.Mode.TheVariants.{Idle, Waiting, Routed, Spilling}
use Rattle.router_ports.specs.Records.{Router}

abbrev pub is_owner : Option ℕ → ℕ → Bool
is_owner None i = false
is_owner (Some j) i = eqb j i

abbrev pub is_routed : Mode → ℕ → Bool
is_routed Idle o = false
is_routed (Waiting w) o = false
is_routed (Routed p) o = eqb p o
is_routed Spilling o = false

-- wanted ports above 10 are bits from 11 on
abbrev pub bad_wanted : Wanted → Bool
bad_wanted w = eqb w.ports 0 || ltb 2047 w.ports

abbrev pub bad_mode : Router → ℕ → Mode → Bool
bad_mode s i Idle = false
bad_mode s i (Waiting w) = bad_wanted w
bad_mode s i (Routed o) = ltb 10 o || not (is_owner (output_at s o).owner i)
bad_mode s i Spilling = false

abbrev pub bad_owner : Router → ℕ → Option ℕ → Bool
bad_owner s o None = false
bad_owner s o (Some i) = ltb 10 i || not (is_routed (mode_at s i) o)

abbrev pub bad_output : Router → ℕ → Bool
bad_output s p = bad_owner s p (output_at s p).owner || ltb 10 (output_at s p).last

abbrev pub bad_port : Router → ℕ → Bool
bad_port s p = bad_mode s p (mode_at s p) || bad_output s p

unfoldable pub bad_ports : Router → Bool
bad_ports s = any (bad_port s) 0 11

unfoldable pub bad_stores : Router → List ℕ → Bool
bad_stores s area = any (λ (k : ℕ). bad_store (size_in area) (store_at s k)) 0 22
