-- Each thing that can happen in a round happens to rings and lists alike, so a whole run does.
-- Assumes nothing.
use Rattle.std.specs.Prelude.{None, Some}
use mathlib.Core.Path.{◌≡◌, refl, ap, subst, ◌∙◌}
use mathlib.Core.Bool.{Bool, true, false}
use mathlib.Core.List.{List}
use Prim.Native.Nat.{ℕ, ◌/◌, ◌<◌}
use native.Mathlib.Omega.{arith}
use borrow.Author.Tests.{le-ltb}
use lib.Dec.{ltb}
use lib.ListN.{get_or}
use Rattle.vocabulary.specs.Choice.{pick}
use Rattle.vocabulary.specs.NChars.{read_as}
use Rattle.store.specs.Ring.{empty}
use Rattle.store.proofs.ReadLaws.{read_small}
use Rattle.router_table.specs.Headings.{heading}
use Rattle.router_table.specs.declared.Direction.{Direction}
use Rattle.router_table.specs.declared.Heading.TheVariants.{Ports}
use Rattle.router_ports.specs.Ports.{output_at, store_at, input_store, output_store}
use Rattle.router_ports.specs.Places.{Machine, places_at, empty_at, front_at, with_behind}
use Rattle.router_ports.specs.declared.Mode.{Mode}
use Rattle.router_ports.specs.declared.Mode.TheVariants.{Idle, Routed, Spilling}
use Rattle.router_ports.specs.declared.Output.{Output}
use Rattle.router_ports.proofs.PortLaws.{ModeOk}
use Rattle.router_ports.proofs.StateLaws.{Sound, output_shape, mode_keeps_stores, drop_sound, append_sound}
use Rattle.router_rounds.specs.Addresses.{waits}
use Rattle.router_rounds.specs.Moves.{frees, carries}
use Rattle.router_rounds.specs.Model.{Model, model}
use Rattle.router_rounds.specs.Exact.{exact}
use Rattle.router_rounds.proofs.KeepLaws.{wish}
use Rattle.router_rounds.proofs.SoundLaws.{sound_kept, waits_below}
use Rattle.router_rounds.proofs.FallLaws.{append_keeps_empty}
use Rattle.router_rounds.proofs.DeedLaws.{front_in, Stands, Moves, Shows, Deeds}
use Rattle.router_rings.proofs.RingProof.{Lists, shows_empty, shows_full, shows_front}
use Rattle.router_rings.proofs.RingProof.{mode_tied, output_tied, drop_tied, append_tied}

pub routed_below : (n : ℕ) (x : Machine) → Sound n x → (i o : ℕ) → i < 11 → exact.mode x i ≡ Routed o → o < 11
routed_below n x sound i o h e = (subst (ModeOk (output_at x.router) i) e (sound.agree.inputs i h)).0

-- what is read from a store is read as it is when it is stored again
read_again : (n : ℕ) → read_as (read_as n) ≡ read_as n
read_again n = ap (λ (b : Bool). pick b 257 (read_as n)) (le-ltb 257 (read_as n) (read_small n))

front_again : (x : Machine) (k : ℕ) → read_as (front_at x k) ≡ front_at x k
front_again x k = go (ltb k 22)
  where
    go : (b : Bool) → read_as (pick b (read_as (get_or (places_at x.area k) (store_at x.router k).front 0)) 0)
        ≡ pick b (read_as (get_or (places_at x.area k) (store_at x.router k).front 0)) 0
    go true = read_again (get_or (places_at x.area k) (store_at x.router k).front 0)
    go false = refl

module _ (n : ℕ) (table : List ℕ) where
  abbrev N : ℕ
  N = n / 22

  pub shows : Shows exact (model N) (Lists n) table
  shows =
      record {
        mode = λ x y r i. r.tied.modes i;
        output = λ x y r o. r.tied.outputs o;
        is_empty = λ x y r i h. shows_empty n x y r (input_store i);
        is_full = λ x y r i o h e. shows_full n x y r (output_store o) (omega (arith, routed_below n x r.sound i o h e));
        front = λ x y r i h some. shows_front n x y r (input_store i) (omega arith) some;
      }

  -- an N-Char leaves an input
  drops : (x : Machine) (y : Model) (i : ℕ) → i < 11 → Lists n x y → empty_at x (input_store i) ≡ false →
      Lists n (exact.drop_front x (input_store i)) ((model N).drop_front y (input_store i))
  drops x y i h r some =
      record {
        sound = drop_sound n x r.sound (input_store i);
        tied = drop_tied n x y r (input_store i) (omega arith) some;
      }

  -- an input does something else
  turns : (x : Machine) (y : Model) (i : ℕ) (m : Mode) → i < 11 → Lists n x y → Sound n (exact.set_mode x i m) →
      Lists n (exact.set_mode x i m) ((model N).set_mode y i m)
  turns x y i m h r sound = record { sound = sound; tied = mode_tied x y r.sound.shape r.tied N i m h }

  -- an input and an output change together
  joins : (x : Machine) (y : Model) (i o : ℕ) (out : Output) (m : Mode) → i < 11 → o < 11 → Lists n x y →
      Sound n (exact.set_mode (exact.set_output x o out) i m) →
      Lists n (exact.set_mode (exact.set_output x o out) i m) ((model N).set_mode ((model N).set_output y o out) i m)
  joins x y i o out m h k r sound =
      record {
        sound = sound;
        tied =
            mode_tied (exact.set_output x o out) ((model N).set_output y o out) (output_shape x.router r.sound.shape o out k)
            (output_tied x y r.sound.shape r.tied N o out k) N i m h;
      }

  waits_tied : (x : Machine) (y : Model) (i : ℕ) (d : Direction) → Lists n x y → Stands exact x i Idle →
      heading table (front_in exact x i) ≡ Ports d → Lists n (waits exact x i d) (waits (model N) y i d)
  unfolding waits
  waits_tied x y i d r stands e =
      let sound = (sound_kept n).waits x i table (front_in exact x i) d stands.port stands.mode e r.sound in
      go d.delete (turns x y i (wish d) stands.port r sound)
    where
      go : (b : Bool) → Lists n (exact.set_mode x i (wish d)) ((model N).set_mode y i (wish d)) →
          Lists n (pick b (exact.drop_front (exact.set_mode x i (wish d)) (input_store i)) (exact.set_mode x i (wish d)))
          (pick b ((model N).drop_front ((model N).set_mode y i (wish d)) (input_store i)) ((model N).set_mode y i (wish d)))
      go true now =
          drops _ _ i stands.port now (ap empty (mode_keeps_stores x.router i (wish d) (input_store i)) ∙ stands.some)
      go false now = now

  module _ (x : Machine) (y : Model) (i o : ℕ) (end : Bool) (r : Lists n x y) (m : Moves exact x i o end) where
    abbrev c : ℕ
    c = front_in exact x i

    to : o < 11
    to = routed_below n x r.sound i o m.stands.port m.stands.mode

    carries_tied : Lists n (carries exact x i o c) (carries (model N) y i o c)
    unfolding carries
    carries_tied =
        let behind : Lists n (with_behind x (output_store o) c) ((model N).append y (output_store o) c) =
        record {
          sound = append_sound n x r.sound (output_store o) c;
          tied = append_tied n x y r (output_store o) (omega (arith, to)) c (front_again x (input_store i)) m.room;
        } in
        drops _ _ i m.stands.port behind
        (append_keeps_empty n x r.sound o c i m.stands.port ∙ m.stands.some)

    still_routed : exact.mode (carries exact x i o c) i ≡ Routed o
    unfolding carries
    still_routed =
        (sound_kept n).drop_mode (with_behind x (output_store o) c) (input_store i) i
        ∙ (sound_kept n).append_mode x (output_store o) c i ∙ m.stands.mode

    closes_tied : Lists n (frees exact (carries exact x i o c) i o) (frees (model N) (carries (model N) y i o c) i o)
    unfolding frees
    closes_tied =
        let carried = carries exact x i o c in
        let lists = carries (model N) y i o c in
        let out : Output = record { owner = None; last = (exact.output carried o).last } in
        subst (λ (p : Output). Lists n (frees exact carried i o)
        ((model N).set_mode ((model N).set_output lists o (record { owner = None; last = p.last })) i Idle))
        (carries_tied.tied.outputs o)
        (joins carried lists i o out Idle m.stands.port to carries_tied
        ((sound_kept n).frees carried i o m.stands.port still_routed carries_tied.sound))

  pub deeds : Deeds exact (model N) (Lists n) table
  deeds =
      record {
        empties = λ x y i r s e. drops x y i s.port r s.some;
        strays = λ x y i r s e.
            turns x y i Spilling s.port r ((sound_kept n).strays x i s.port s.mode r.sound);
        waits = waits_tied;
        grants = λ x y o i r t.
            let h = waits_below x o i t.high t.wants in
            joins x y i o (record { owner = Some i; last = i }) (Routed o) h t.port r
            ((sound_kept n).takes x o i t.high t.port t.free t.wants r.sound);
        moves = λ x y i o r m. carries_tied x y i o false r m;
        closes = λ x y i o r m. closes_tied x y i o true r m;
        spills = λ x y i r s e. drops x y i s.port r s.some;
        rests = λ x y i r s e.
            let spilt = drops x y i s.port r s.some in
            turns _ _ i Idle s.port spilt
            ((sound_kept n).rests _ i s.port ((sound_kept n).drop_mode x (input_store i) i ∙ s.mode) spilt.sound);
      }
