-- What one call does to the stores of an end; and that nothing waits to be sent while puts are discarded, so that what a
-- put discards stands behind all that was accepted before it.
-- Assumes nothing.
use mathlib.Core.Path.{◌≡◌, refl, sym, ap, ◌∙◌}
use mathlib.Core.Bool.{Bool, true}
use mathlib.Core.List.{List, [], ◌++◌, append-nil, append_assoc}
use Prim.Native.Nat.{ℕ, ◌+◌, ◌≤◌}
use native.Mathlib.Omega.{arith}
use native.Mathlib.Nat.{zero-add}
use lib.ListN.{length, length-append}
use Rattle.store.specs.Ring.{free}
use Rattle.store.proofs.RingLaws.{waiting_length, len_within}
use Rattle.link.specs.Ends.{End}
use Rattle.link_laws.specs.NothingLost.{rx_waits, tx_waits}
use Rattle.link_laws.proofs.EndLaws.{Good}

-- what entered the transmit store, was sent from it, and how many were discarded from it; what entered the receive
-- store, was taken from it and emptied from it
pub record Traffic : Type 0 where
  pub puts : List ℕ
  pub sends : List ℕ
  pub discards : ℕ
  pub stores : List ℕ
  pub takes : List ℕ
  pub empties : List ℕ

-- where the host does nothing
abbrev pub traffic : List ℕ → ℕ → List ℕ → Traffic
traffic sends discards stores =
    record { puts = []; sends = sends; discards = discards; stores = stores; takes = []; empties = [] }

-- Of what waits in the transmit and in the receive store, before and after: what waited and what entered is what went on,
-- what was thrown away, and what waits.
pub record Change (tx rx tx' rx' : List ℕ) (discarding : Bool) (m : Traffic) : Type 0 where
  pub none_waits : discarding ≡ true → tx' ≡ []
  pub away : List ℕ
  pub counted : length away ≡ m.discards
  pub transmit : tx ++ m.puts ≡ m.sends ++ (away ++ tx')
  pub receive : rx ++ m.stores ≡ m.takes ++ (m.empties ++ rx')

-- from one end to another
abbrev pub ChangeTo : End → End → Traffic → Type 0
ChangeTo e e' m = Change (tx_waits e) (rx_waits e) (tx_waits e') (rx_waits e') e'.link.marks.discarding m

abbrev pub NoneWaits : End → Type 0
NoneWaits e = e.link.marks.discarding ≡ true → tx_waits e ≡ []

-- It leaves a good end; the accounts need that none waited while puts were discarded.
pub record Changes (e e' : End) (m : Traffic) : Type 0 where
  pub good : Good e'
  pub same_size : length e'.rx ≡ length e.rx
  pub change : NoneWaits e → ChangeTo e e' m

-- what is stored then waits or has left, and what waits has its place
pub stores_fit : {e e' : End} {m : Traffic} → Changes e e' m → NoneWaits e →
    length m.stores ≤ free (length e.rx) e.link.rx + length m.takes + length m.empties
stores_fit {e} {e'} {m} all w =
    omega (
      arith,
      ap length (all.change w).receive,
      length-append (rx_waits e) m.stores,
      length-append m.takes (m.empties ++ rx_waits e'),
      length-append m.empties (rx_waits e'),
      waiting_length e.rx e.link.rx,
      waiting_length e'.rx e'.link.rx,
      len_within (length e'.rx) e'.link.rx all.good.sound.rx_good,
      all.same_size,
    )

-- nothing changes
pub still : {tx rx : List ℕ} {discarding : Bool} → (discarding ≡ true → tx ≡ []) →
    Change tx rx tx rx discarding (traffic [] 0 [])
still {tx} {rx} none =
    record { none_waits = none; away = []; counted = refl; transmit = append-nil tx; receive = append-nil rx }

-- an effect, which discards nothing, and then a move, which sends nothing
pub effect_then_move : {tx rx tx₁ rx₁ tx₂ rx₂ : List ℕ} {d₁ d₂ : Bool} {sends heard : List ℕ} {n : ℕ} {eep : List ℕ} →
    Change tx rx tx₁ rx₁ d₁ (traffic sends 0 heard) → Change tx₁ rx₁ tx₂ rx₂ d₂ (traffic [] n eep) →
    Change tx rx tx₂ rx₂ d₂ (traffic sends n (heard ++ eep))
effect_then_move {rx = rx} {tx₁ = tx₁} {tx₂ = tx₂} {sends = sends} {heard = heard} {n = n} {eep = eep} c d =
    record {
      none_waits = d.none_waits;
      away = c.away ++ d.away;
      counted = length-append c.away d.away ∙ rw (c.counted, d.counted) (zero-add n);
      transmit =
          c.transmit
          ∙ ap (λ (ns : List ℕ). sends ++ (c.away ++ ns)) (sym (append-nil tx₁) ∙ d.transmit)
          ∙ ap (λ (ns : List ℕ). sends ++ ns) (sym (append_assoc c.away d.away tx₂));
      receive = sym (append_assoc rx heard eep) ∙ ap (λ (ns : List ℕ). ns ++ eep) c.receive ∙ d.receive;
    }
