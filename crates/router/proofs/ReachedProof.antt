-- Calls leave states and areas that are never refused as STATE: a fresh one is sound, and every call keeps that. On such
-- states the mark of a round says exactly whether it changed anything.
-- Assumes nothing.
use mathlib.Core.Path.{◌≡◌, refl, sym, ap, ◌∙◌}
use mathlib.Core.Bool.{Bool, true, false, not, ◌||◌}
use mathlib.Core.List.{List}
use Prim.Native.Nat.{ℕ, ◌/◌, ◌%◌, ◌<◌}
use native.Mathlib.Omega.{arith}
use lib.Dec.{ltb, eqb}
use lib.ListN.{length, get_or-replicate}
use borrow.Author.Tests.{lt-ltb, ltb-false}
use Rattle.vocabulary.specs.Choice.{pick}
use Rattle.store.specs.Changes.{fresh_store}
use Rattle.store.proofs.OrLaws.{or_left, or_right}
use Rattle.store.proofs.RingLaws.{fresh_good}
use Rattle.router_ports.specs.Ports.{idle, free, no_output, fresh_router, mode_at, output_at, store_at, input_store, output_store}
use Rattle.router_ports.specs.Places.{Machine, machine, size_in, bad_area}
use Rattle.router_ports.specs.declared.Mode.TheVariants.{Idle}
use Rattle.router_ports.proofs.StateLaws.{Shape, Sound, drop_sound, append_sound, sound_ports, sound_stores}
use Rattle.router_rounds.proofs.SoundLaws.{run_sound}
use Rattle.router_rounds.proofs.StillProof.{unmarked_is_still}
use Rattle.router_rounds.proofs.MarkedProof.{marked_is_change}
use Rattle.router_rounds.specs.Acts.{Tally, count_round}
use Rattle.router_rounds.specs.Exact.{exact}
use Rattle.router.specs.Refusals.{put_refusal, take_refusal, run_refusal}
use Rattle.router.specs.Calls.{Put, Took, Run, puts, took_one, takes, told, runs}
use Rattle.router.specs.Reached.{Reached, fresh, put, take, run, NeverSpoiled, MarkIsExact}

-- fresh

pub fresh_mode : (i : ℕ) → i < 11 → mode_at fresh_router i ≡ Idle
unfolding fresh_router
fresh_mode i h = rw (lt-ltb i 11 h, get_or-replicate 11 i idle idle h)

pub fresh_output : (o : ℕ) → o < 11 → output_at fresh_router o ≡ free
unfolding fresh_router
fresh_output o h = rw (lt-ltb o 11 h, get_or-replicate 11 o free no_output h)

pub fresh_store_lem : (k : ℕ) → k < 22 → store_at fresh_router k ≡ fresh_store
unfolding fresh_router
fresh_store_lem k h = rw (lt-ltb k 22 h, get_or-replicate 22 k fresh_store fresh_store h)

fresh_shape : Shape fresh_router
unfolding fresh_router
fresh_shape = record { inputs = refl; outputs = refl; stores = refl }

pub fresh_sound : (area : List ℕ) → bad_area area ≡ false → Sound (length area) (machine fresh_router area)
fresh_sound area e =
    let equal = not (eqb (length area % 22) 0) in
    let sizes = or_left (equal || ltb (size_in area) 9) (ltb 1024 (size_in area)) e in
    let least = ltb-false (size_in area) 9 (or_right equal (ltb (size_in area) 9) sizes) in
    record {
      shape = fresh_shape;
      agree =
          record {
            inputs = λ i h. rw (fresh_mode i h) tt;
            owners = λ o h. rw (fresh_output o h) tt;
            lasts = λ o h. rw (fresh_output o h) (omega arith);
          };
      fits = record { fit = λ k h. rw (fresh_store_lem k h) (fresh_good (size_in area) (omega arith)) };
      size = refl;
    }

-- what is kept: the state is sound, and the area as long as one that is allowed
pub record Kept (x : Machine) : Type 0 where
  pub size : ℕ
  pub sound : Sound size x
  pub area : bad_area x.area ≡ false

pub same_size : (x y : Machine) → length x.area ≡ length y.area → bad_area y.area ≡ false → bad_area x.area ≡ false
same_size x y e bad =
    ap (λ (m : ℕ). not (eqb (m % 22) 0) || ltb (m / 22) 9 || ltb 1024 (m / 22)) e ∙ bad

keeps : (x y : Machine) → ((n : ℕ) → Sound n x → Sound n y) → Kept x → Kept y
keeps x y f k =
    let s = f k.size k.sound in
    record { size = k.size; sound = s; area = same_size y x (s.size ∙ sym k.sound.size) k.area }

either : {A : Type 0} (now : A → Machine) (b : Bool) (p q : A) → Kept (now p) → Kept (now q) → Kept (now (pick b p q))
either now true p q k l = k
either now false p q k l = l

put_keeps : (x : Machine) (port n : ℕ) → Kept x → Kept (puts x port n).now
unfolding puts
put_keeps x port n k =
    either (λ (a : Put). a.now) (eqb (put_refusal x port n) 0) _ _
    (keeps x _ (λ m s. append_sound m x s (input_store port) n) k) k

take_keeps : (x : Machine) (port : ℕ) → Kept x → Kept (takes x port).now
unfolding takes took_one
take_keeps x port k =
    either (λ (a : Took). a.now) (eqb (take_refusal x port) 0) _ _
    (keeps x _ (λ m s. drop_sound m x s (output_store port)) k) k

run_keeps : (x : Machine) (table : List ℕ) (limit : ℕ) → Kept x → Kept (runs x table limit).now
unfolding runs told
run_keeps x table limit k =
    either (λ (a : Run). a.now) (eqb (run_refusal x limit) 0) _ _
    (keeps x _ (λ m s. run_sound m table limit x s) k) k

pub reached_keeps : {x : Machine} → Reached x → Kept x
reached_keeps (fresh area e) = record { size = length area; sound = fresh_sound area e; area = e }
reached_keeps (put {x} port n r) = put_keeps x port n (reached_keeps r)
reached_keeps (take {x} port r) = take_keeps x port (reached_keeps r)
reached_keeps (run {x} table limit r) = run_keeps x table limit (reached_keeps r)

pub never_spoiled : NeverSpoiled
never_spoiled x r =
    let k = reached_keeps r in
    record {
      ports = sound_ports k.size x k.sound;
      stores = sound_stores k.size x k.sound;
      area = k.area;
    }

same_start : (t : Tally Machine) → (count_round t).now ≡ t.now
unfolding count_round
same_start t = refl

pub mark_is_exact : MarkIsExact
mark_is_exact table t r =
    let k = reached_keeps r in
    record {
      off = λ e. ap (λ (u : Tally Machine). u.now) (unmarked_is_still exact table t e) ∙ same_start t;
      on = marked_is_change k.size table t k.sound;
    }
