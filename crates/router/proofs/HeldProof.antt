-- What the answer says is read off its definition: each set bit by bit, the mark `nothing` test by test.
-- Assumes nothing.
use Rattle.std.specs.Prelude.{Option, None, Some}
use mathlib.Core.Path.{◌≡◌, refl, sym, ap, ◌∙◌}
use mathlib.Core.Bool.{Bool, true, false, not, ◌||◌, or-false}
use Prim.Native.Nat.{ℕ, ◌<◌}
use native.Mathlib.Nat.{zero-add}
use native.Mathlib.Omega.{arith}
use lib.Dec.{eqb, leb}
use Rattle.std.proofs.lemmas.Bool.{and_parts}
use borrow.Author.Tests.{eqb-true, eqb-false, leb-true}
use Rattle.vocabulary.specs.Choice.{pick}
use Rattle.router_ports.specs.Ports.{input_store, output_store, wants, mode_at, output_at, store_at}
use Rattle.router_ports.specs.declared.Mode.{Mode}
use Rattle.router_ports.specs.declared.Mode.TheVariants.{Idle, Waiting, Routed, Spilling}
use Rattle.router_ports.specs.Records.{Router}
use Rattle.router_rounds.specs.Grants.{waits_for}
use Rattle.router.specs.Refusals.{held_refusal}
use Rattle.router.specs.Records.{StillHeld}
use Rattle.router.specs.Held.{awaits, unmoved_at, set_of, wanted_by, unread}
use Rattle.router.specs.Held.{nothing_at_input, nothing_at_output, nothing_held}
use Rattle.router.specs.Held.{held_through, held_refused, still_held, SetsSay, NothingHeld, NothingUnread, HeldSays}
use Rattle.router.proofs.HeldLaws.{set_bit, set_small, empty_bit, no_members}

-- the sets

bit_of : (member : ℕ → Bool) (i : ℕ) → i < 11 → wants (set_of member 0 11) i ≡ member i
bit_of member i h = set_bit member 0 11 i h ∙ ap member (zero-add i)

sets_say : (s : Router) (port : ℕ) → SetsSay s port
unfolding wanted_by unread
sets_say s port =
    record {
      wanted_bit = bit_of (λ (i : ℕ). awaits port (mode_at s i));
      wanted_below = set_small (λ (i : ℕ). awaits port (mode_at s i)) 0 11 (omega arith);
      unread_bit = bit_of (unmoved_at s);
      unread_below = set_small (unmoved_at s) 0 11 (omega arith);
    }

-- an input waits for a port if it waits at high or at low priority

either_priority : (port : ℕ) (m : Mode) → awaits port m ≡ waits_for port true m || waits_for port false m
either_priority port Idle = refl
either_priority port (Waiting w) = at w.high refl
  where
    at : (high : Bool) → w.high ≡ high →
        wants w.ports port ≡ waits_for port true (Waiting w) || waits_for port false (Waiting w)
    at true e = rw e (sym (or-false (wants w.ports port)))
    at false e = rw e refl
either_priority port (Routed o) = refl
either_priority port Spilling = refl

-- the mark `nothing`

in_says : (m : Mode) (unmoved : ℕ) → nothing_at_input m unmoved ≡ true → (m ≡ Idle) × (unmoved ≡ 0)
in_says Idle unmoved h = (refl, eqb-true unmoved 0 h)
in_says (Waiting w) unmoved h = (cc, cc)
in_says (Routed o) unmoved h = (cc, cc)
in_says Spilling unmoved h = (cc, cc)

out_says : (w : Option ℕ) (untaken wanted : ℕ) → nothing_at_output w untaken wanted ≡ true →
    (w ≡ None) × (untaken ≡ 0) × (wanted ≡ 0)
out_says None untaken wanted h =
    let two = and_parts (eqb untaken 0) (eqb wanted 0) h in
    (refl, eqb-true untaken 0 two.0, eqb-true wanted 0 two.1)
out_says (Some i) untaken wanted h = (cc, cc, cc)

mark_means : (s : Router) (port : ℕ) → nothing_held s port ≡ true → NothingHeld s port
unfolding nothing_held
mark_means s port h =
    let two =
    and_parts (nothing_at_input (mode_at s port) (store_at s (input_store port)).len)
    (nothing_at_output (output_at s port).owner (store_at s (output_store port)).len (wanted_by s port)) h in
    let input = in_says (mode_at s port) (store_at s (input_store port)).len two.0 in
    let output =
    out_says (output_at s port).owner (store_at s (output_store port)).len (wanted_by s port) two.1 in
    record {
      mode = input.0;
      unmoved = input.1;
      owner = output.0;
      untaken = output.1;
      unwanted = λ i b.
          sym ((sets_say s port).wanted_bit i b) ∙ ap (λ (set : ℕ). wants set i) output.2 ∙ empty_bit i;
    }

mark_follows : (s : Router) (port : ℕ) → NothingHeld s port → nothing_held s port ≡ true
unfolding nothing_held wanted_by
mark_follows s port none =
    let unwanted = no_members (λ (i : ℕ). awaits port (mode_at s i)) none.unwanted 0 11 (omega arith) in
    rw (none.mode, none.unmoved, none.owner, none.untaken, unwanted) refl

none_unmoved : (len : ℕ) → not (leb len 0) ≡ false → len ≡ 0
none_unmoved len h = at (leb len 0) refl h
  where
    at : (b : Bool) → leb len 0 ≡ b → not b ≡ false → len ≡ 0
    at true e n = let least = leb-true len 0 e in omega arith
    at false e n = cc

unread_says : (s : Router) → unread s ≡ 0 → NothingUnread s
unread_says s h =
    record {
      empty = λ i b.
          none_unmoved (store_at s (input_store i)).len
          (sym ((sets_say s 0).unread_bit i b) ∙ ap (λ (set : ℕ). wants set i) h ∙ empty_bit i);
    }

unread_none : (s : Router) → NothingUnread s → unread s ≡ 0
unfolding unread
unread_none s none =
    no_members (unmoved_at s) (λ i b. ap (λ (len : ℕ). not (leb len 0)) (none.empty i b)) 0 11 (omega arith)

-- as the call answers them

accepted : (s : Router) (port number : ℕ) (b : Bool) → eqb number 0 ≡ b →
    (pick b (held_through s port) (held_refused number)).refusal ≡ 0 →
    pick b (held_through s port) (held_refused number) ≡ held_through s port
unfolding held_refused
accepted s port number true e r = refl
accepted s port number false e r = absurd (eqb-false number 0 e r)

answered : (s : Router) (port : ℕ) → (still_held s port).refusal ≡ 0 → still_held s port ≡ held_through s port
unfolding still_held
answered s port r = accepted s port (held_refusal s port) (eqb (held_refusal s port) 0) refl r

-- a refusal is never taken for nothing held
not_refused : (s : Router) (port number : ℕ) (b : Bool) →
    (pick b (held_through s port) (held_refused number)).nothing ≡ true →
    (pick b (held_through s port) (held_refused number)).refusal ≡ 0
unfolding held_through held_refused
not_refused s port number true h = refl
not_refused s port number false h = cc

-- refused or not, nothing unread is answered as none
either_unread : (s : Router) (port number : ℕ) (b : Bool) → unread s ≡ 0 →
    (pick b (held_through s port) (held_refused number)).unread ≡ 0
unfolding held_through held_refused
either_unread s port number true h = h
either_unread s port number false h = refl

pub held_says : HeldSays
unfolding held_through still_held
held_says =
    record {
      waits = either_priority;
      sets = sets_say;
      nothing_held_lem = λ s port h.
          let r = not_refused s port (held_refusal s port) (eqb (held_refusal s port) 0) h in
          (r, mark_means s port (sym (ap (λ (a : StillHeld). a.nothing) (answered s port r)) ∙ h));
      held_nothing = λ s port r none. ap (λ (a : StillHeld). a.nothing) (answered s port r) ∙ mark_follows s port none;
      nothing_unread = λ s port r h. unread_says s (sym (ap (λ (a : StillHeld). a.unread) (answered s port r)) ∙ h);
      unread_nothing = λ s port none.
          either_unread s port (held_refusal s port) (eqb (held_refusal s port) 0) (unread_none s none);
    }
