-- What can happen to the ports in a round, each with what is known where it happens, at two routers side by side.
-- Assumes nothing.
use Rattle.std.specs.Prelude.{Some}
use mathlib.Core.Path.{◌≡◌}
use mathlib.Core.Bool.{Bool, true, false}
use mathlib.Core.List.{List}
use Prim.Native.Nat.{ℕ, ◌+◌, ◌<◌}
use Rattle.vocabulary.specs.NChars.{is_end}
use Rattle.router_table.specs.Headings.{heading}
use Rattle.router_table.specs.declared.Direction.{Direction}
use Rattle.router_table.specs.declared.Heading.TheVariants.{End, Nowhere, Ports}
use Rattle.router_ports.specs.Ports.{input_store, output_store}
use Rattle.router_ports.specs.declared.Mode.{Mode}
use Rattle.router_ports.specs.declared.Mode.TheVariants.{Idle, Routed, Spilling}
use Rattle.router_rounds.specs.Acts.{Acts, Tally}
use Rattle.router_rounds.specs.Addresses.{waits}
use Rattle.router_rounds.specs.Grants.{is_free, waits_for}
use Rattle.router_rounds.specs.Moves.{frees, carries}

-- an input's front N-Char, and what it reads there
module _ {X : Type 0} (M : Acts X) (x : X) (i : ℕ) where
  abbrev pub front_in : ℕ
  front_in = M.front x (input_store i)

  -- an input has an N-Char, in this mode
  pub record Stands (m : Mode) : Type 0 where
    pub port : i < 11
    pub mode : M.mode x i ≡ m
    pub some : M.is_empty x (input_store i) ≡ false

  -- a routed input has an N-Char, and its output accepts it
  pub record Moves (o : ℕ) (end : Bool) : Type 0 where
    pub stands : Stands (Routed o)
    pub room : M.is_full x (output_store o) ≡ false
    pub ends : is_end front_in ≡ end

  -- a waiting input that a free output takes
  pub record Taken (o : ℕ) : Type 0 where
    pub port : o < 11
    pub free : is_free (M.output x o).owner ≡ true
    pub high : Bool
    pub wants : waits_for o high (M.mode x i) ≡ true

abbrev pub grant : {X : Type 0} → Acts X → X → ℕ → ℕ → X
grant M x o i = M.set_mode (M.set_output x o (record { owner = Some i; last = i })) i (Routed o)

module _ {X Y : Type 0} (M : Acts X) (N : Acts Y) (R : X → Y → Type 0) (table : List ℕ) where
  -- what the ports show is the same
  pub record Shows : Type 0 where
    pub mode : (x : X) (y : Y) → R x y → (i : ℕ) → M.mode x i ≡ N.mode y i
    pub output : (x : X) (y : Y) → R x y → (o : ℕ) → M.output x o ≡ N.output y o
    pub is_empty : (x : X) (y : Y) → R x y → (i : ℕ) → i < 11 → M.is_empty x (input_store i) ≡ N.is_empty y (input_store i)
    pub is_full : (x : X) (y : Y) → R x y → (i o : ℕ) → i < 11 → M.mode x i ≡ Routed o →
        M.is_full x (output_store o) ≡ N.is_full y (output_store o)
    pub front : (x : X) (y : Y) → R x y → (i : ℕ) → i < 11 → M.is_empty x (input_store i) ≡ false →
        M.front x (input_store i) ≡ N.front y (input_store i)

  -- and whatever happens, they stand alike afterwards
  pub record Deeds : Type 0 where
    pub empties : (x : X) (y : Y) (i : ℕ) → R x y → Stands M x i Idle → heading table (front_in M x i) ≡ End →
        R (M.drop_front x (input_store i)) (N.drop_front y (input_store i))
    pub strays : (x : X) (y : Y) (i : ℕ) → R x y → Stands M x i Idle → heading table (front_in M x i) ≡ Nowhere →
        R (M.set_mode x i Spilling) (N.set_mode y i Spilling)
    pub waits : (x : X) (y : Y) (i : ℕ) (d : Direction) → R x y → Stands M x i Idle →
        heading table (front_in M x i) ≡ Ports d → R (waits M x i d) (waits N y i d)
    pub grants : (x : X) (y : Y) (o i : ℕ) → R x y → Taken M x i o → R (grant M x o i) (grant N y o i)
    pub moves : (x : X) (y : Y) (i o : ℕ) → R x y → Moves M x i o false →
        R (carries M x i o (front_in M x i)) (carries N y i o (front_in M x i))
    pub closes : (x : X) (y : Y) (i o : ℕ) → R x y → Moves M x i o true →
        R (frees M (carries M x i o (front_in M x i)) i o) (frees N (carries N y i o (front_in M x i)) i o)
    pub spills : (x : X) (y : Y) (i : ℕ) → R x y → Stands M x i Spilling → is_end (front_in M x i) ≡ false →
        R (M.drop_front x (input_store i)) (N.drop_front y (input_store i))
    pub rests : (x : X) (y : Y) (i : ℕ) → R x y → Stands M x i Spilling → is_end (front_in M x i) ≡ true →
        R (M.set_mode (M.drop_front x (input_store i)) i Idle) (N.set_mode (N.drop_front y (input_store i)) i Idle)

-- the same counts but for what was counted before
pub record Counted : Type 0 where
  pub rounds : ℕ
  pub moved : ℕ
  pub errors : ℕ

-- ports that stand alike, with counts that differ by what was counted before
pub record Level {X Y : Type 0} (R : X → Y → Type 0) (c : Counted) (t : Tally X) (u : Tally Y) : Type 0 where
  pub now : R t.now u.now
  pub rounds : t.rounds ≡ c.rounds + u.rounds
  pub moved : t.moved ≡ c.moved + u.moved
  pub errors : t.errors ≡ c.errors + u.errors
