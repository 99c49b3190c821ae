-- The router as the paper has it: what each input does, who holds each output and whom it was last granted to, and each
-- store as the list of its N-Chars. Every store has `size` places.
-- Assumes nothing.
use Rattle.std.specs.Prelude.{ℕ, Bool, true, false, List, [], ◌∷◌, ◌++◌, length, drop, eqb, leb}
use Rattle.vocabulary.specs.Choice.{pick}
use Rattle.router_ports.specs.declared.Mode.{Mode}
use Rattle.router_ports.specs.declared.Output.{Output}
use Rattle.router_rounds.specs.Acts.{Acts}

pub record Model : Type 0 where
  pub modes : ℕ → Mode
  pub outputs : ℕ → Output
  pub held : ℕ → List ℕ

-- a function that is changed at one number
abbrev pub at : {B : Type 0} → (ℕ → B) → ℕ → B → ℕ → B
at f k v j = pick (eqb j k) v (f j)

abbrev pub is_nil : List ℕ → Bool
is_nil [] = true
is_nil (n ∷ ns) = false

abbrev pub first : List ℕ → ℕ
first [] = 0
first (n ∷ ns) = n

abbrev pub model : ℕ → Acts Model
model size =
    record {
      mode = λ (x : Model). x.modes;
      output = λ (x : Model). x.outputs;
      is_empty = λ (x : Model) (k : ℕ). is_nil (x.held k);
      is_full = λ (x : Model) (k : ℕ). leb size (length (x.held k));
      front = λ (x : Model) (k : ℕ). first (x.held k);
      set_mode = λ (x : Model) (i : ℕ) (m : Mode).
          record { modes = at x.modes i m; outputs = x.outputs; held = x.held };
      set_output = λ (x : Model) (o : ℕ) (out : Output).
          record { modes = x.modes; outputs = at x.outputs o out; held = x.held };
      drop_front = λ (x : Model) (k : ℕ).
          record { modes = x.modes; outputs = x.outputs; held = at x.held k (drop 1 (x.held k)) };
      append = λ (x : Model) (k n : ℕ).
          record { modes = x.modes; outputs = x.outputs; held = at x.held k (x.held k ++ n ∷ []) };
    }
