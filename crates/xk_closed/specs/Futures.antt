-- What is known of the instructions that others may still carry out: by that a set of activities is seen to be closed.
use Rattle.std.specs.Prelude.{◌≡◌, ℕ, ◌==◌, ◌⊎◌, Bool, true, false, List, Some}
use Rattle.std.specs.Option.{option_map_or}
use Rattle.xk_types.specs.declared.instr.Instr.{Instr}
use Rattle.xk_types.specs.declared.instr.Instr.TheVariants as instr
use Rattle.xk_types.specs.declared.world.Event.{Event}
use Rattle.xk_types.specs.Code.{ModuleValue}
use Rattle.xk_types.specs.World.{World}
use Rattle.xk_types.specs.Step.{Stepped, step}
use Rattle.xk_types.specs.Schedule.{Through, run, is_enabled}
use Rattle.xk_law_commute.specs.Conflicts.{next_instruction}
use Rattle.xk_law_traces.specs.Edges.{AreApart, prints}
use Rattle.xk_closed.specs.Closed.{AreOutside, IsStuck}

-- As long as nobody of the set moves, each step of another's carries out an instruction that passes the test.
abbrev pub IsFuture : ModuleValue → World → (ℕ → Bool) → (Instr → Bool) → Type 0
IsFuture m w set future = (list : List ℕ) (v x : World) (b : ℕ) (e : Event) → AreOutside set list → run m list w ≡ Through v → set b ≡ false
    → step m v b ≡ Stepped x e → option_map_or future (next_instruction m v b) true ≡ true

-- Each of the set can take a step that has nothing to do with what others may still carry out; or it takes none as long
-- as nobody of the set moves.
pub record IsFree (m : ModuleValue) (w : World) (set : ℕ → Bool) (future : Instr → Bool) : Type 0 where
  pub moves : (a : ℕ) → set a ≡ true → (is_enabled m w a ≡ true) ⊎ IsStuck m w set a
  pub apart : (a : ℕ) (j : Instr) → set a ≡ true → is_enabled m w a ≡ true → future j ≡ true → AreApart (Some j) (next_instruction m w a)
  pub silent : (a : ℕ) (j : Instr) → set a ≡ true → is_enabled m w a ≡ true → future j ≡ true
      → (option_map_or prints (next_instruction m w a) false ≡ false) ⊎ (prints j ≡ false)

-- it neither prints nor has to do with a shared number
abbrev pub is_private : Instr → Bool
is_private (instr.Print x) = false
is_private (instr.Get d s) = false
is_private (instr.Put s x) = false
is_private (instr.AddTo s x) = false
is_private _ = true

-- activity a alone
abbrev pub alone : ℕ → ℕ → Bool
alone a b = b == a
