-- A round whose mark is on changed something: less is left to do than before, so the state or the area is another.
-- Assumes nothing.
use Rattle.std.specs.Prelude.{Option, None, Some}
use mathlib.Core.Path.{◌≡◌, refl, sym, ap, subst, ◌∙◌}
use mathlib.Core.Bool.{Bool, true, false, false≢true}
use mathlib.Core.List.{List}
use Prim.Native.Nat.{ℕ, ◌+◌, ◌*◌, ◌<◌}
use native.Mathlib.Omega.{arith}
use Rattle.vocabulary.specs.Choice.{pick}
use Rattle.vocabulary.specs.NChars.{is_end}
use Rattle.store.specs.Ring.{empty}
use Rattle.router_table.specs.Headings.{heading}
use Rattle.router_table.specs.declared.Heading.{Heading}
use Rattle.router_table.specs.declared.Heading.TheVariants.{End, Nowhere, Ports}
use Rattle.router_ports.specs.Ports.{mode_at, output_at, store_at, input_store, output_store}
use Rattle.router_ports.specs.Places.{Machine, empty_at, full_at, front_at, without_front, with_behind}
use Rattle.router_ports.specs.declared.Mode.{Mode}
use Rattle.router_ports.specs.declared.Mode.TheVariants.{Idle, Waiting, Routed, Spilling}
use Rattle.router_ports.specs.declared.Output.{Output}
use Rattle.router_ports.proofs.PortLaws.{ModeOk}
use Rattle.router_ports.proofs.StateLaws.{Sound, mode_keeps_stores, drop_sound, append_sound}
use Rattle.router_rounds.specs.Acts.{Tally, changed_to, count_moved, count_error, count_round}
use Rattle.router_rounds.specs.Addresses.{waits, follows, reads, if_idle, addresses, part1}
use Rattle.router_rounds.specs.Grants.{is_free, waits_for, fits, candidates, chosen, granted, grants_to, grants, part2}
use Rattle.router_rounds.specs.Moves.{frees, carries, moves, moves_one, spills, spills_one, if_sending, sends, part3}
use Rattle.router_rounds.specs.Rounds.{round}
use Rattle.router_rounds.specs.Exact.{exact}
use Rattle.router_rounds.proofs.KeepLaws.{Keeps, wish, each_keeps, first_fits, keeps_addresses, keeps_grants, keeps_sends, begins_kept}
use Rattle.router_rounds.proofs.SoundLaws.{sound_kept, waits_below}
use Rattle.router_rounds.proofs.FallLaws.{left, left_of, drop_falls, append_falls, append_keeps_empty, mode_falls, both_fall}

-- nothing was done, or less is left
data Falls (t u : Tally Machine) : Type 0 where
  same : u ≡ t → Falls t u
  less : left u.now < left t.now → Falls t u

then : (t u w : Tally Machine) → Falls t u → Falls u w → Falls t w
then t u w (same e) (same f) = same (f ∙ e)
then t u w (same e) (less g) = less (rw (ap (λ (v : Tally Machine). left v.now) e) at g)
then t u w (less g) (same f) = less (rw (ap (λ (v : Tally Machine). left v.now) f) g)
then t u w (less g) (less l) = less (omega arith)

changes : (s t : Tally Machine) (x : Machine) → left x < left s.now → Falls s (changed_to t x)
unfolding changed_to
changes s t x h = less h

either : (b : Bool) (t u : Tally Machine) → (b ≡ false → Falls t u) → Falls t (pick b t u)
either true t u f = same refl
either false t u f = f refl

-- less, whichever of two it is
lesser : (b : Bool) (k : ℕ) (x y : Machine) → left x < k → left y < k → left (pick b x y) < k
lesser true k x y g l = g
lesser false k x y g l = l

module _ (n : ℕ) (table : List ℕ) where
  keep : Keeps exact (Sound n)
  keep = sound_kept n

  addresses_fall : (t : Tally Machine) (i : ℕ) → i < 11 → Sound n t.now → Falls t (addresses exact table t i)
  unfolding addresses reads waits
  addresses_fall t i h sound = go (mode_at t.now.router i) refl
    where
      follow : mode_at t.now.router i ≡ Idle → empty_at t.now (input_store i) ≡ false →
          (c : ℕ) (g : Heading) → heading table c ≡ g → Falls t (follows exact t i g)
      follow e some c End w = changes t t _ (omega (arith, drop_falls n t.now sound i h some))
      follow e some c Nowhere w =
          changes t (count_error t) _ (omega (arith, mode_falls t.now sound.shape i Idle Spilling h e))
      follow e some c (Ports d) w =
          let waiting = (sound_kept n).waits t.now i table c d h e w sound in
          let fall = mode_falls t.now sound.shape i Idle (wish d) h e in
          let still = ap empty (mode_keeps_stores t.now.router i (wish d) (input_store i)) ∙ some in
          changes t t _
          (lesser d.delete (left t.now) _ _ (omega (arith, fall, drop_falls n _ waiting i h still)) (omega (arith, fall)))

      go : (m : Mode) → mode_at t.now.router i ≡ m → Falls t (if_idle exact table t i m)
      go Idle e =
          either (empty_at t.now (input_store i)) t _
          (λ some. follow e some (front_at t.now (input_store i)) (heading table (front_at t.now (input_store i))) refl)
      go (Waiting w) e = same refl
      go (Routed o) e = same refl
      go Spilling e = same refl

  waiting_left : (o len : ℕ) (high : Bool) (m : Mode) → waits_for o high m ≡ true → left_of m len ≡ 6 * len + 3
  waiting_left o len high Idle e = absurd (false≢true e)
  waiting_left o len high (Waiting w) e = refl
  waiting_left o len high (Routed p) e = absurd (false≢true e)
  waiting_left o len high Spilling e = absurd (false≢true e)

  grants_fall : (t : Tally Machine) (o : ℕ) → o < 11 → Sound n t.now → Falls t (grants exact t o)
  unfolding grants granted
  grants_fall t o k sound = go (is_free (output_at t.now.router o).owner)
    where
      take : (c : Option ℕ) → chosen exact t.now o ≡ c → Falls t (grants_to exact t o c)
      take None w = same refl
      take (Some i) w =
          let x = t.now in
          let f = first_fits (fits exact x o) (candidates (output_at x.router o).last) i w in
          let waiting : waits_for o f.candidate.high (mode_at x.router i) ≡ true =
          ap (λ (j : ℕ). waits_for o f.candidate.high (mode_at x.router j)) (sym f.input) ∙ f.fits in
          let h = waits_below x o i f.candidate.high waiting in
          let out : Output = record { owner = Some i; last = i } in
          let len = (store_at x.router (input_store i)).len in
          changes t t _
          (omega (
            arith,
            both_fall x sound.shape i o out (mode_at x.router i) (Routed o) h k refl,
            waiting_left o len f.candidate.high (mode_at x.router i) waiting,
          ))

      go : (b : Bool) → Falls t (pick b (grants_to exact t o (chosen exact t.now o)) t)
      go true = take (chosen exact t.now o) refl
      go false = same refl

  sends_fall : (t : Tally Machine) (i : ℕ) → i < 11 → Sound n t.now → Falls t (sends exact t i)
  unfolding sends moves_one moves carries frees spills_one spills
  sends_fall t i h sound = go (mode_at t.now.router i) refl
    where
      move : (o c : ℕ) → mode_at t.now.router i ≡ Routed o → empty_at t.now (input_store i) ≡ false →
          Falls t (moves exact t i o c)
      move o c e some =
          let x = t.now in
          let put = append_sound n x sound (output_store o) c in
          let moved = drop_sound n _ put (input_store i) in
          let k : o < 11 = (subst (ModeOk (output_at x.router) i) e (sound.agree.inputs i h)).0 in
          let mode = (sound_kept n).drop_mode (with_behind x (output_store o) c) (input_store i) i
          ∙ (sound_kept n).append_mode x (output_store o) c i ∙ e in
          let fall = drop_falls n _ put i h (append_keeps_empty n x sound o c i h ∙ some) in
          let carried = without_front (with_behind x (output_store o) c) (input_store i) in
          let out : Output = record { owner = None; last = (output_at carried.router o).last } in
          changes t (count_moved t) _
          (lesser (is_end c) (left x) _ _
          (omega (
            arith,
            append_falls n x sound o c,
            fall,
            both_fall carried moved.shape i o out (Routed o) Idle h k mode,
          ))
          (omega (arith, append_falls n x sound o c, fall)))

      spill : (c : ℕ) → mode_at t.now.router i ≡ Spilling → empty_at t.now (input_store i) ≡ false →
          Falls t (changed_to t (spills exact t.now i c))
      spill c e some =
          let x = t.now in
          let spilt = drop_sound n x sound (input_store i) in
          let mode = (sound_kept n).drop_mode x (input_store i) i ∙ e in
          let fall = drop_falls n x sound i h some in
          changes t t _
          (lesser (is_end c) (left x) _ _
          (omega (arith, fall, mode_falls (without_front x (input_store i)) spilt.shape i Spilling Idle h mode))
          (omega (arith, fall)))

      go : (m : Mode) → mode_at t.now.router i ≡ m → Falls t (if_sending exact t i m)
      go Idle e = same refl
      go (Waiting w) e = same refl
      go (Routed o) e =
          either (full_at t.now (output_store o)) t _
          (λ full. either (empty_at t.now (input_store i)) t _
          (λ some. move o (front_at t.now (input_store i)) e some))
      go Spilling e =
          either (empty_at t.now (input_store i)) t _ (λ some. spill (front_at t.now (input_store i)) e some)

  -- sound, and at most as much left as at the start
  record Lower (s t : Tally Machine) : Type 0 where
    sound : Sound n t.now
    falls : Falls s t

  round_falls : (t : Tally Machine) → Sound n t.now → Falls (count_round t) (round exact table t)
  unfolding round part1 part2 part3
  round_falls t sound =
      let s = count_round t in
      let start : Lower s s = record { sound = begins_kept exact (Sound n) keep table t sound; falls = same refl } in
      (each_keeps (Lower s) 11 (sends exact)
      (λ u i h l. record {
        sound = keeps_sends exact (Sound n) keep table u i h l.sound;
        falls = then s u _ l.falls (sends_fall u i h l.sound);
      }) 0 11 _ (omega arith)
      (each_keeps (Lower s) 11 (grants exact)
      (λ u i h l. record {
        sound = keeps_grants exact (Sound n) keep table u i h l.sound;
        falls = then s u _ l.falls (grants_fall u i h l.sound);
      }) 0 11 _ (omega arith)
      (each_keeps (Lower s) 11 (addresses exact table)
      (λ u i h l. record {
        sound = keeps_addresses exact (Sound n) keep table u i h l.sound;
        falls = then s u _ l.falls (addresses_fall u i h l.sound);
      }) 0 11 s (omega arith) start))
      ).falls

  unmarked : (t : Tally Machine) → (count_round t).changed ≡ false
  unfolding count_round
  unmarked t = refl

  begins_as : (t : Tally Machine) → (count_round t).now ≡ t.now
  unfolding count_round
  begins_as t = refl

  -- a marked round leaves another state or area
  pub marked_is_change : (t : Tally Machine) → Sound n t.now → (round exact table t).changed ≡ true →
      (round exact table t).now ≡ t.now → ⊥
  marked_is_change t sound mark e = go (round_falls t sound)
    where
      go : Falls (count_round t) (round exact table t) → ⊥
      go (same s) = false≢true (sym (unmarked t) ∙ ap (λ (u : Tally Machine). u.changed) (sym s) ∙ mark)
      go (less l) = omega (arith, l, ap left e, ap left (begins_as t))
