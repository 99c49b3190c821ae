-- Every router that passes the tests of put, take and run fits its words: it is sound, and what is sound fits. Loading what
-- was saved gives it back.
-- Assumes nothing.
use Rattle.std.specs.Prelude.{Option, None, Some}
use Prim.Native.Nat.{ℕ, ◌/◌, ◌%◌, ◌≤◌}
use mathlib.Core.Path.{◌≡◌, ap}
use mathlib.Core.Bool.{true, false, not, ◌||◌}
use mathlib.Core.List.{List}
use native.Mathlib.Omega.{arith}
use lib.ListN.{length}
use lib.Dec.{eqb, ltb}
use borrow.Author.Tests.{ltb-false}
use Rattle.words.proofs.SameLaws.{same_itself}
use Rattle.store.proofs.OrLaws.{or_right}
use Rattle.store.proofs.RingLaws.{front_below, len_within}
use Rattle.router_ports.specs.Ports.{mode_at, output_at, store_at}
use Rattle.router_ports.specs.Places.{Machine, machine, size_in, bad_area}
use Rattle.router_ports.specs.Refusals.{bad_ports, bad_stores}
use Rattle.router_ports.specs.declared.Mode.{Mode}
use Rattle.router_ports.specs.declared.Mode.TheVariants.{Idle, Waiting, Routed, Spilling}
use Rattle.router_ports.specs.declared.Output.{Output}
use Rattle.router_ports.specs.Records.{Router}
use Rattle.router_ports.specs.RouterWords.{router_words, is_router, FitsMode, FitsOwner, FitsRouter, KeepsRouters}
use Rattle.router_ports.proofs.PortLaws.{ModeOk, OwnerOk}
use Rattle.router_ports.proofs.StateLaws.{Sound}
use Rattle.router_ports.proofs.AcceptedLaws.{accepted_sound}
use Rattle.router_ports.proofs.KeepsProof.{router_back}

mode_fits : (outs : ℕ → Output) (i : ℕ) (m : Mode) → ModeOk outs i m → FitsMode m
mode_fits outs i Idle ok = tt
mode_fits outs i (Waiting w) ok =
    let below = ltb-false 2047 w.ports (or_right (eqb w.ports 0) (ltb 2047 w.ports) ok) in
    omega (arith, below)
mode_fits outs i (Routed o) ok = omega (arith, ok.0)
mode_fits outs i Spilling ok = tt

owner_fits : (modes : ℕ → Mode) (o : ℕ) (w : Option ℕ) → OwnerOk modes o w → FitsOwner w
owner_fits modes o None ok = tt
owner_fits modes o (Some i) ok = omega (arith, ok.0)

pub sound_fits : (n : ℕ) → n / 22 ≤ 1024 → (x : Machine) → Sound n x → FitsRouter x.router
sound_fits n small x sound =
    let s = x.router in
    let size : size_in x.area ≡ n / 22 = ap (λ (m : ℕ). m / 22) sound.size in
    record {
      inputs = sound.shape.inputs;
      outputs = sound.shape.outputs;
      stores = sound.shape.stores;
      modes = λ p h. mode_fits (output_at s) p (mode_at s p) (sound.agree.inputs p h);
      owners = λ p h. owner_fits (mode_at s) p (output_at s p).owner (sound.agree.owners p h);
      lasts = λ p h. omega (arith, sound.agree.lasts p h);
      fronts = λ k h. omega (arith, front_below (size_in x.area) (store_at s k) (sound.fits.fit k h), size, small);
      lens = λ k h. omega (arith, len_within (size_in x.area) (store_at s k) (sound.fits.fit k h), size, small);
    }

pub size_small : (area : List ℕ) → bad_area area ≡ false → length area / 22 ≤ 1024
size_small area e =
    ltb-false 1024 (size_in area) (or_right (not (eqb (length area % 22) 0) || ltb (size_in area) 9) (ltb 1024 (size_in area)) e)

passing_fits : (r : Router) (area : List ℕ) → length r.inputs ≡ 11 → length r.outputs ≡ 11 → length r.stores ≡ 22 →
    bad_ports r ≡ false → bad_area area ≡ false → bad_stores r area ≡ false → FitsRouter r
passing_fits r area i o s ports size stores =
    sound_fits (length area) (size_small area size) (machine r area)
    (accepted_sound r area (record { inputs = i; outputs = o; stores = s }) ports stores)

is_router_lem : (r : Router) → FitsRouter r → is_router (router_words r) ≡ true
is_router_lem r fits = rw (router_back r fits) (same_itself (router_words r))

pub keeps_routers : KeepsRouters
keeps_routers = record { back = router_back; is_router_lem = is_router_lem; fits = passing_fits }
