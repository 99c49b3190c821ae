-- What the table of moves does to an end between an effect and its move: finite facts, each one computed test over all
-- cases.
-- Assumes nothing.
use mathlib.Core.Path.{◌≡◌, ap}
use mathlib.Core.Bool.{Bool, true, false, not, ◌||◌}
use Rattle.link.specs.Moves.{is_state, Conditions, state_after, counts_ticks}
use Rattle.link.proofs.TableLaws.{every_case}
use Rattle.link.specs.declared.LinkState.{LinkState}
use Rattle.link.specs.declared.LinkState.TheVariants.{ErrorReset, Connecting, Run}
use Rattle.link.specs.declared.Event.{Event}
use Rattle.link_laws.proofs.TestLaws.{neither}
use Rattle.link_laws.proofs.EndLaws.{may_hold}

-- where no move is made, a timer that counts is below its limit, and credit is held in Run alone
abbrev below_limit : LinkState → Event → Conditions → Bool
below_limit s e c = not (is_state (state_after s e c) s) || (not (counts_ticks s) || not c.at_limit)

abbrev held_in_run : LinkState → Event → Conditions → Bool
held_in_run s e c = not (is_state (state_after s e c) s) || (is_state s Run || not (may_hold s e))

-- Where one is made, and not to ErrorReset, credit may be held after it only in Run, and given out after it only in
-- Connecting and Run, if before it they might be only there.
abbrev held_onward : LinkState → Event → Conditions → Bool
held_onward s e c =
    (is_state (state_after s e c) s || is_state (state_after s e c) ErrorReset)
    || (is_state (state_after s e c) Run || not (may_hold s e))

abbrev given_onward : LinkState → Event → Conditions → Bool
given_onward s e c =
    (is_state (state_after s e c) s || is_state (state_after s e c) ErrorReset)
    || ((is_state (state_after s e c) Connecting || is_state (state_after s e c) Run)
    || not (is_state s Connecting || is_state s Run))

module _ (s : LinkState) (e : Event) (c : Conditions) where
  module _ (stays : is_state (state_after s e c) s ≡ true) where
    pub stays_below : counts_ticks s ≡ true → c.at_limit ≡ false
    stays_below counts =
        neither (not (is_state (state_after s e c) s)) (not (counts_ticks s)) c.at_limit
        (every_case below_limit tt s e c) (ap not stays) (ap not counts)

    pub stays_held : is_state s Run ≡ false → may_hold s e ≡ false
    stays_held =
        neither (not (is_state (state_after s e c) s)) (is_state s Run) (may_hold s e)
        (every_case held_in_run tt s e c) (ap not stays)

  module _ (onward : is_state (state_after s e c) s || is_state (state_after s e c) ErrorReset ≡ false) where
    pub onward_held : is_state (state_after s e c) Run ≡ false → may_hold s e ≡ false
    onward_held =
        neither (is_state (state_after s e c) s || is_state (state_after s e c) ErrorReset) (is_state (state_after s e c) Run)
        (may_hold s e) (every_case held_onward tt s e c) onward

    pub onward_given : is_state (state_after s e c) Connecting || is_state (state_after s e c) Run ≡ false →
        is_state s Connecting || is_state s Run ≡ false
    onward_given =
        neither (is_state (state_after s e c) s || is_state (state_after s e c) ErrorReset)
        (is_state (state_after s e c) Connecting || is_state (state_after s e c) Run)
        (is_state s Connecting || is_state s Run) (every_case given_onward tt s e c) onward
