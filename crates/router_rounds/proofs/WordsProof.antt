-- A run on the words that a sound router is saved as leaves the words of what the run leaves: each thing that can happen in a
-- round happens to words and state alike.
-- Assumes nothing.
use Rattle.std.specs.Prelude.{None, Some}
use mathlib.Core.Path.{◌≡◌, refl, sym, ap, subst, ◌∙◌}
use mathlib.Core.Bool.{Bool, true, false}
use mathlib.Core.List.{List}
use Prim.Native.Nat.{ℕ, ◌/◌, ◌≤◌, ◌<◌}
use native.Mathlib.Omega.{arith}
use Rattle.vocabulary.specs.Choice.{pick}
use Rattle.store.specs.Changes.{without_first, put_store}
use Rattle.router_table.specs.Headings.{heading}
use Rattle.router_table.specs.declared.Direction.{Direction}
use Rattle.router_table.specs.declared.Heading.TheVariants.{Ports}
use Rattle.router_ports.specs.Ports.{output_at, store_at, input_store, output_store}
use Rattle.router_ports.specs.Places.{Machine, machine, size_in, places_at, empty_at, full_at, front_at, put_at, without_front, with_behind}
use Rattle.router_ports.specs.declared.Mode.{Mode}
use Rattle.router_ports.specs.declared.Mode.TheVariants.{Idle, Routed, Spilling}
use Rattle.router_ports.specs.declared.Output.{Output}
use Rattle.router_ports.specs.Records.{Router}
use Rattle.router_ports.proofs.PortLaws.{ModeOk}
use Rattle.router_ports.proofs.StateLaws.{Sound, output_shape, drop_sound, append_sound}
use Rattle.router_ports.specs.RouterWords.{router_words, with_store_in, without_front_in, with_behind_in}
use Rattle.router_ports.proofs.KeepsProof.{router_back}
use Rattle.router_ports.proofs.FitsProof.{sound_fits}
use Rattle.router_ports.proofs.LayoutLaws.{mode_saved, output_saved, store_saved}
use Rattle.router_rounds.specs.Addresses.{waits}
use Rattle.router_rounds.specs.Moves.{frees, carries}
use Rattle.router_rounds.specs.Rounds.{begun, rounds}
use Rattle.router_rounds.specs.Exact.{exact}
use Rattle.router_rounds.specs.InWords.{Words, kept, loaded, in_words, saved_of, SavedRun}
use Rattle.router_rounds.proofs.KeepLaws.{wish}
use Rattle.router_rounds.proofs.SoundLaws.{sound_kept, waits_below}
use Rattle.router_rounds.proofs.DeedLaws.{front_in, Stands, Moves, Shows, Deeds}
use Rattle.router_rounds.proofs.WalkLaws.{rounds_level}

module _ (n : ℕ) (small : n / 22 ≤ 1024) where
  pub loads_back : (x : Machine) → Sound n x → loaded (saved_of x) ≡ x
  loads_back x sound = ap (λ (r : Router). machine r x.area) (router_back x.router (sound_fits n small x sound))

  -- a sound router beside its words
  pub record InWords (x : Machine) (w : Words) : Type 0 where
    pub sound : Sound n x
    pub same : w ≡ saved_of x

  loads : (x : Machine) (w : Words) → InWords x w → x ≡ loaded w
  loads x w r = sym (ap loaded r.same ∙ loads_back x r.sound)

  -- one change, in words and in the state

  turns : (x : Machine) (w : Words) (i : ℕ) (m : Mode) → i < 11 → InWords x w → Sound n (exact.set_mode x i m) →
      InWords (exact.set_mode x i m) (in_words.set_mode w i m)
  turns x w i m h r sound =
      record {
        sound = sound;
        same =
            ap (λ (v : Words). in_words.set_mode v i m) r.same
            ∙ ap (λ (s : List ℕ). kept s x.area) (mode_saved x.router r.sound.shape i m h);
      }

  joins : (x : Machine) (w : Words) (i o : ℕ) (out : Output) (m : Mode) → i < 11 → o < 11 → InWords x w →
      Sound n (exact.set_mode (exact.set_output x o out) i m) →
      InWords (exact.set_mode (exact.set_output x o out) i m) (in_words.set_mode (in_words.set_output w o out) i m)
  joins x w i o out m h k r sound =
      record {
        sound = sound;
        same =
            ap (λ (v : Words). in_words.set_mode (in_words.set_output v o out) i m) r.same
            ∙ ap (λ (s : List ℕ). in_words.set_mode (kept s x.area) i m) (output_saved x.router r.sound.shape o out k)
            ∙ ap (λ (s : List ℕ). kept s x.area)
            (mode_saved (exact.set_output x o out).router (output_shape x.router r.sound.shape o out k) i m h);
      }

  drop_saved : (x : Machine) → Sound n x → (k : ℕ) → k < 22 → in_words.drop_front (saved_of x) k ≡ saved_of (without_front x k)
  unfolding without_front_in without_front
  drop_saved x sound k h =
      ap (λ (y : Machine). kept (with_store_in (router_words x.router) k (without_first (places_at x.area k) (store_at y.router k))) x.area)
      (loads_back x sound)
      ∙ ap (λ (s : List ℕ). kept s x.area)
      (store_saved x.router sound.shape k (without_first (places_at x.area k) (store_at x.router k)) h)

  drops : (x : Machine) (w : Words) (k : ℕ) → k < 22 → InWords x w → InWords (exact.drop_front x k) (in_words.drop_front w k)
  drops x w k h r =
      record {
        sound = drop_sound n x r.sound k;
        same = ap (λ (v : Words). in_words.drop_front v k) r.same ∙ drop_saved x r.sound k h;
      }

  append_saved : (x : Machine) → Sound n x → (k c : ℕ) → k < 22 → in_words.append (saved_of x) k c ≡ saved_of (with_behind x k c)
  unfolding with_behind_in with_behind
  append_saved x sound k c h =
      ap (λ (y : Machine). kept (with_store_in (router_words x.router) k (put_store (size_in x.area) (store_at y.router k) c))
      (put_at x.area k (store_at y.router k) c))
      (loads_back x sound)
      ∙ ap (λ (s : List ℕ). kept s (put_at x.area k (store_at x.router k) c))
      (store_saved x.router sound.shape k (put_store (size_in x.area) (store_at x.router k) c) h)

  appends : (x : Machine) (w : Words) (k c : ℕ) → k < 22 → InWords x w → InWords (exact.append x k c) (in_words.append w k c)
  appends x w k c h r =
      record {
        sound = append_sound n x r.sound k c;
        same = ap (λ (v : Words). in_words.append v k c) r.same ∙ append_saved x r.sound k c h;
      }

  module _ (table : List ℕ) where
    shows : Shows exact in_words InWords table
    shows =
        record {
          mode = λ x w r i. ap (λ (y : Machine). exact.mode y i) (loads x w r);
          output = λ x w r o. ap (λ (y : Machine). exact.output y o) (loads x w r);
          is_empty = λ x w r i h. ap (λ (y : Machine). empty_at y (input_store i)) (loads x w r);
          is_full = λ x w r i o h e. ap (λ (y : Machine). full_at y (output_store o)) (loads x w r);
          front = λ x w r i h some. ap (λ (y : Machine). front_at y (input_store i)) (loads x w r);
        }

    routed_below : (x : Machine) → Sound n x → (i o : ℕ) → i < 11 → exact.mode x i ≡ Routed o → o < 11
    routed_below x sound i o h e = (subst (ModeOk (output_at x.router) i) e (sound.agree.inputs i h)).0

    waits_alike : (x : Machine) (w : Words) (i : ℕ) (d : Direction) → InWords x w → Stands exact x i Idle →
        heading table (front_in exact x i) ≡ Ports d → InWords (waits exact x i d) (waits in_words w i d)
    unfolding waits
    waits_alike x w i d r stands e =
        let sound = (sound_kept n).waits x i table (front_in exact x i) d stands.port stands.mode e r.sound in
        go d.delete (turns x w i (wish d) stands.port r sound)
      where
        go : (b : Bool) → InWords (exact.set_mode x i (wish d)) (in_words.set_mode w i (wish d)) →
            InWords (pick b (exact.drop_front (exact.set_mode x i (wish d)) (input_store i)) (exact.set_mode x i (wish d)))
            (pick b (in_words.drop_front (in_words.set_mode w i (wish d)) (input_store i)) (in_words.set_mode w i (wish d)))
        go true now = drops _ _ (input_store i) (omega (arith, stands.port)) now
        go false now = now

    module _ (x : Machine) (w : Words) (i o : ℕ) (end : Bool) (r : InWords x w) (m : Moves exact x i o end) where
      abbrev c : ℕ
      c = front_in exact x i

      to : o < 11
      to = routed_below x r.sound i o m.stands.port m.stands.mode

      carries_alike : InWords (carries exact x i o c) (carries in_words w i o c)
      unfolding carries
      carries_alike =
          drops _ _ (input_store i) (omega (arith, m.stands.port)) (appends x w (output_store o) c (omega (arith, to)) r)

      still_routed : exact.mode (carries exact x i o c) i ≡ Routed o
      unfolding carries
      still_routed =
          (sound_kept n).drop_mode (with_behind x (output_store o) c) (input_store i) i
          ∙ (sound_kept n).append_mode x (output_store o) c i ∙ m.stands.mode

      closes_alike : InWords (frees exact (carries exact x i o c) i o) (frees in_words (carries in_words w i o c) i o)
      unfolding frees
      closes_alike =
          let carried = carries exact x i o c in
          let words = carries in_words w i o c in
          let out : Output = record { owner = None; last = (exact.output carried o).last } in
          subst (λ (y : Machine). InWords (frees exact carried i o)
          (in_words.set_mode (in_words.set_output words o (record { owner = None; last = (exact.output y o).last })) i Idle))
          (loads carried words carries_alike)
          (joins carried words i o out Idle m.stands.port to carries_alike
          ((sound_kept n).frees carried i o m.stands.port still_routed carries_alike.sound))

    deeds : Deeds exact in_words InWords table
    deeds =
        record {
          empties = λ x w i r s e. drops x w (input_store i) (omega (arith, s.port)) r;
          strays = λ x w i r s e.
              turns x w i Spilling s.port r ((sound_kept n).strays x i s.port s.mode r.sound);
          waits = waits_alike;
          grants = λ x w o i r t.
              let h = waits_below x o i t.high t.wants in
              joins x w i o (record { owner = Some i; last = i }) (Routed o) h t.port r
              ((sound_kept n).takes x o i t.high t.port t.free t.wants r.sound);
          moves = λ x w i o r m. carries_alike x w i o false r m;
          closes = λ x w i o r m. closes_alike x w i o true r m;
          spills = λ x w i r s e. drops x w (input_store i) (omega (arith, s.port)) r;
          rests = λ x w i r s e.
              let spilt = drops x w (input_store i) (omega (arith, s.port)) r in
              turns _ _ i Idle s.port spilt
              ((sound_kept n).rests _ i s.port ((sound_kept n).drop_mode x (input_store i) i ∙ s.mode) spilt.sound);
        }

    pub runs_in_words : (x : Machine) → Sound n x → (limit : ℕ) →
        SavedRun (rounds exact table limit (begun x)) (rounds in_words table limit (begun (saved_of x)))
    unfolding begun
    runs_in_words x sound limit =
        let level = rounds_level exact in_words InWords table shows deeds (record { rounds = 0; moved = 0; errors = 0 }) limit
        (begun x) (begun (saved_of x))
        (record { now = record { sound = sound; same = refl }; rounds = refl; moved = refl; errors = refl }) in
        record {
          now = level.now.same;
          rounds = omega (arith, level.rounds);
          moved = omega (arith, level.moved);
          errors = omega (arith, level.errors);
        }
