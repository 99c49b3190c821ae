-- A state that is not refused as STATE is sound: its ports agree, and its stores fit their places.
-- Assumes nothing.
use Rattle.std.specs.Prelude.{Option, None, Some}
use mathlib.Core.Path.{◌≡◌, refl, ap}
use mathlib.Core.Bool.{true, false, false≢true, not}
use mathlib.Core.List.{List}
use Prim.Native.Nat.{ℕ, ◌<◌}
use native.Mathlib.Omega.{arith}
use lib.Dec.{ltb}
use lib.ListN.{length}
use borrow.Author.Tests.{ltb-false, eqb-true, not-false}
use Rattle.store.specs.Ring.{bad_store}
use Rattle.store.proofs.OrLaws.{or_left, or_right}
use Rattle.router_ports.specs.Ports.{mode_at, output_at, store_at}
use Rattle.router_ports.specs.Places.{machine, size_in}
use Rattle.router_ports.specs.Refusals.{is_owner, is_routed, bad_mode, bad_owner, bad_output, bad_port, bad_ports, bad_stores}
use Rattle.router_ports.specs.declared.Mode.{Mode}
use Rattle.router_ports.specs.declared.Mode.TheVariants.{Idle, Waiting, Routed, Spilling}
use Rattle.router_ports.specs.Records.{Router}
use Rattle.router_ports.proofs.EachLaws.{none_at}
use Rattle.router_ports.proofs.PortLaws.{ModeOk, OwnerOk, Agree}
use Rattle.router_ports.proofs.StateLaws.{Shape, Sound}

owner_is : (w : Option ℕ) (i : ℕ) → is_owner w i ≡ true → w ≡ Some i
owner_is None i e = absurd (false≢true e)
owner_is (Some j) i e = ap Some (eqb-true j i e)

routed_is : (m : Mode) (o : ℕ) → is_routed m o ≡ true → m ≡ Routed o
routed_is Idle o e = absurd (false≢true e)
routed_is (Waiting w) o e = absurd (false≢true e)
routed_is (Routed p) o e = ap Routed (eqb-true p o e)
routed_is Spilling o e = absurd (false≢true e)

module _ (s : Router) where
  mode_ok : (i : ℕ) (m : Mode) → bad_mode s i m ≡ false → ModeOk (output_at s) i m
  mode_ok i Idle e = tt
  mode_ok i (Waiting w) e = e
  mode_ok i (Routed o) e =
      let below = ltb-false 10 o (or_left (ltb 10 o) (not (is_owner (output_at s o).owner i)) e) in
      let held = not-false (is_owner (output_at s o).owner i) (or_right (ltb 10 o) (not (is_owner (output_at s o).owner i)) e) in
      (omega (arith, below), owner_is (output_at s o).owner i held)
  mode_ok i Spilling e = tt

  owner_ok : (o : ℕ) (w : Option ℕ) → bad_owner s o w ≡ false → OwnerOk (mode_at s) o w
  owner_ok o None e = tt
  owner_ok o (Some i) e =
      let below = ltb-false 10 i (or_left (ltb 10 i) (not (is_routed (mode_at s i) o)) e) in
      let routed = not-false (is_routed (mode_at s i) o) (or_right (ltb 10 i) (not (is_routed (mode_at s i) o)) e) in
      (omega (arith, below), routed_is (mode_at s i) o routed)

  module _ (good : bad_ports s ≡ false) (p : ℕ) (h : p < 11) where
    port_good : bad_port s p ≡ false
    unfolding bad_ports
    port_good = none_at (bad_port s) 0 11 p good (omega arith) (omega (arith, h))

    output_good : bad_output s p ≡ false
    output_good = or_right (bad_mode s p (mode_at s p)) (bad_output s p) port_good

    last_below : (output_at s p).last < 11
    last_below =
        let below = ltb-false 10 (output_at s p).last
        (or_right (bad_owner s p (output_at s p).owner) (ltb 10 (output_at s p).last) output_good) in
        omega (arith, below)

  pub accepted_agree : bad_ports s ≡ false → Agree (mode_at s) (output_at s)
  accepted_agree good =
      record {
        inputs = λ i h. mode_ok i (mode_at s i) (or_left (bad_mode s i (mode_at s i)) (bad_output s i) (port_good good i h));
        owners = λ o h.
            owner_ok o (output_at s o).owner
            (or_left (bad_owner s o (output_at s o).owner) (ltb 10 (output_at s o).last) (output_good good o h));
        lasts = last_below good;
      }

pub accepted_sound : (s : Router) (area : List ℕ) → Shape s → bad_ports s ≡ false → bad_stores s area ≡ false →
    Sound (length area) (machine s area)
unfolding bad_stores
accepted_sound s area shape ports stores =
    record {
      shape = shape;
      agree = accepted_agree s ports;
      fits =
          record {
            fit = λ k h.
                none_at (λ (j : ℕ). bad_store (size_in area) (store_at s j)) 0 22 k stores (omega arith) (omega (arith, h));
          };
      size = refl;
    }
