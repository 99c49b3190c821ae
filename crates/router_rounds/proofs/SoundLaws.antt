-- Rounds keep the state and the area sound, so that no state that a run leaves is refused.
-- Assumes nothing.
use Rattle.std.specs.Prelude.{Option, None, Some}
use mathlib.Core.Path.{◌≡◌, refl, sym, ap, subst, ◌∙◌}
use mathlib.Core.Bool.{Bool, true, false, false≢true}
use mathlib.Core.List.{List}
use Prim.Native.Nat.{ℕ, ◌<◌}
use native.Mathlib.Decide.{dec_lt}
use native.Mathlib.Omega.{arith}
use borrow.Author.Tests.{le-ltb, ne_eqb}
use Rattle.router_table.specs.Headings.{heading}
use Rattle.router_table.specs.declared.Direction.{Direction}
use Rattle.router_table.specs.declared.Heading.TheVariants.{Ports}
use Rattle.router_table.proofs.HeadingLaws.{some_ports}
use Rattle.router_ports.specs.Ports.{mode_at, output_at, with_mode, with_output, input_store, output_store}
use Rattle.router_ports.specs.Places.{Machine, machine, without_front, with_behind}
use Rattle.router_ports.specs.Refusals.{bad_wanted}
use Rattle.router_ports.specs.Records.{Router}
use Rattle.router_ports.specs.declared.Mode.{Mode}
use Rattle.router_ports.specs.declared.Mode.TheVariants.{Idle, Routed, Spilling}
use Rattle.router_ports.specs.declared.Output.{Output}
use Rattle.router_ports.proofs.PortLaws.{Agree, ModeOk, Unrouted, OneInput, OneOutput, unrouted_agrees, taken_agrees, freed_agrees}
use Rattle.router_ports.proofs.StateLaws.{Shape, Sound, mode_changed, mode_keeps_outputs, mode_shape, mode_fits, output_changed, output_fits}
use Rattle.router_ports.proofs.StateLaws.{output_keeps_modes, output_shape, store_keeps_modes, drop_sound, append_sound}
use Rattle.router_rounds.specs.Grants.{is_free, waits_for}
use Rattle.router_rounds.specs.Rounds.{begun, rounds}
use Rattle.router_rounds.specs.Exact.{exact}
use Rattle.router_rounds.proofs.KeepLaws.{Keeps, wish, rounds_keep}

-- what is not routed

idle_unrouted : (m : Mode) → m ≡ Idle → Unrouted m
idle_unrouted m e o r = let z : ◌≡◌ {A = ℕ} 0 1 = cc in omega arith

spilling_unrouted : (m : Mode) → m ≡ Spilling → Unrouted m
spilling_unrouted m e o r = let z : ◌≡◌ {A = ℕ} 0 1 = cc in omega arith

waiting_unrouted : (o : ℕ) (high : Bool) (m : Mode) → waits_for o high m ≡ true → Unrouted m
waiting_unrouted o high m w p r = false≢true (ap (waits_for o high) (sym r) ∙ w)

-- past the last port nobody waits
pub waits_below : (x : Machine) (o i : ℕ) (high : Bool) → waits_for o high (mode_at x.router i) ≡ true → i < 11
waits_below x o i high w = go (dec_lt i 11)
  where
    go : Dec (i < 11) → i < 11
    go (yes h) = h
    go (no d) = absurd (false≢true (rw (le-ltb i 11 (omega (arith, d))) at w))

pub free_owner : (w : Option ℕ) → is_free w ≡ true → w ≡ None
free_owner None e = refl
free_owner (Some i) e = absurd (false≢true e)

module _ (n : ℕ) (x : Machine) (sound : Sound n x) (i : ℕ) (h : i < 11) where
  -- an input that is not routed does something else that is no route
  turns : (m : Mode) → Unrouted (mode_at x.router i) → ModeOk (output_at (with_mode x.router i m)) i m →
      Sound n (machine (with_mode x.router i m) x.area)
  turns m free ok =
      let s = x.router in
      record {
        shape = mode_shape s sound.shape i m h;
        agree =
            unrouted_agrees (mode_at s) (mode_at (with_mode s i m)) (output_at s) (output_at (with_mode s i m)) i sound.agree m
            (mode_changed s sound.shape i m h) (mode_keeps_outputs s sound.shape i m h) free ok;
        fits = mode_fits s sound.shape i m h _ sound.fits;
        size = sound.size;
      }

  module _ (o : ℕ) (k : o < 11) (out : Output) (m : Mode) where
    abbrev both : Router
    both = with_mode (with_output x.router o out) i m

    shaped : Shape (with_output x.router o out)
    shaped = output_shape x.router sound.shape o out k

    one_input : OneInput (mode_at x.router) (mode_at both) i m
    one_input =
        let one = mode_changed (with_output x.router o out) shaped i m h in
        record {
          new = one.new;
          others = λ j d. one.others j d ∙ output_keeps_modes x.router sound.shape o out k j;
        }

    one_output : OneOutput (output_at x.router) (output_at both) o out
    one_output =
        let kept = mode_keeps_outputs (with_output x.router o out) shaped i m h in
        let one = output_changed x.router sound.shape o out k in
        record { new = kept o ∙ one.new; others = λ p d. kept p ∙ one.others p d }

    -- an input and an output change together
    joins : Agree (mode_at both) (output_at both) → Sound n (machine both x.area)
    joins agree =
        record {
          shape = mode_shape (with_output x.router o out) shaped i m h;
          agree = agree;
          fits =
              mode_fits (with_output x.router o out) shaped i m h _
              (output_fits x.router sound.shape o out k _ sound.fits);
          size = sound.size;
        }

wanted_good : (table : List ℕ) (c : ℕ) (d : Direction) → heading table c ≡ Ports d →
    bad_wanted (record { ports = d.ports; high = d.high }) ≡ false
wanted_good table c d e =
    let some = some_ports table c d e in
    rw (ne_eqb d.ports 0 (λ z. omega (arith, some)), le-ltb 2047 d.ports (omega (arith, some)))

pub sound_kept : (n : ℕ) → Keeps exact (Sound n)
unfolding without_front with_behind
sound_kept n =
    record {
      drop_mode = λ x k i. store_keeps_modes x.router k _ i;
      append_mode = λ x k c i. store_keeps_modes x.router k _ i;
      drops = λ x i h sound. drop_sound n x sound (input_store i);
      appends = λ x o c sound. append_sound n x sound (output_store o) c;
      waits = λ x i table c d h e w sound.
          turns n x sound i h (wish d) (idle_unrouted _ e) (wanted_good table c d w);
      strays = λ x i h e sound. turns n x sound i h Spilling (idle_unrouted _ e) tt;
      takes = λ x o i high k e w sound.
          let h = waits_below x o i high w in
          joins n x sound i h o k (record { owner = Some i; last = i }) (Routed o)
          (taken_agrees (mode_at x.router) _ (output_at x.router) _ i sound.agree o k
          (one_input n x sound i h o k (record { owner = Some i; last = i }) (Routed o))
          (one_output n x sound i h o k (record { owner = Some i; last = i }) (Routed o))
          h (waiting_unrouted o high _ w) (free_owner _ e));
      frees = λ x i o h e sound.
          let out : Output = record { owner = None; last = (output_at x.router o).last } in
          let k : o < 11 = (subst (ModeOk (output_at x.router) i) e (sound.agree.inputs i h)).0 in
          joins n x sound i h o k out Idle
          (freed_agrees (mode_at x.router) _ (output_at x.router) _ i sound.agree o k
          (one_input n x sound i h o k out Idle) (one_output n x sound i h o k out Idle) h e);
      rests = λ x i h e sound. turns n x sound i h Idle (spilling_unrouted _ e) tt;
    }

pub run_sound : (n : ℕ) (table : List ℕ) (limit : ℕ) (x : Machine) → Sound n x →
    Sound n (rounds exact table limit (begun x)).now
unfolding begun
run_sound n table limit x sound = rounds_keep exact (Sound n) (sound_kept n) table limit (begun x) sound
