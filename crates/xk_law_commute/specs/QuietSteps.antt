-- Steps that may as well be taken first, and worlds that go on alike.
use Rattle.std.specs.Prelude.{◌≡◌, ℕ, Bool, true, false, not, ◌&&◌, None}
use Rattle.std.specs.Option.{option_map_or}
use Rattle.xk_types.specs.declared.instr.Instr.{Instr}
use Rattle.xk_types.specs.declared.instr.Instr.TheVariants as instr
use Rattle.xk_types.specs.declared.world.Event.{Event}
use Rattle.xk_types.specs.Code.{ModuleValue}
use Rattle.xk_types.specs.World.{World}
use Rattle.xk_types.specs.Step.{Stepped, step}
use Rattle.xk_types.specs.Schedule.{IsReached, is_enabled, all_ended, number_printed}
use Rattle.xk_law_commute.specs.PlainWorlds.{AreAlike}
use Rattle.xk_law_commute.specs.Conflicts.{next_instruction}
use Rattle.xk_law_commute.specs.Squares.{IsSquare}

-- it prints, makes a clock, starts an activity, or reads or changes a shared number: it may make a difference when it is carried out
abbrev pub is_loud : Instr → Bool
is_loud (instr.Print x) = true
is_loud (instr.Make k) = true
is_loud (instr.Spawn u args) = true
is_loud (instr.Get d s) = true
is_loud (instr.Put s x) = true
is_loud (instr.AddTo s x) = true
is_loud _ = false

-- activity a can take a step, and its next instruction isn't loud: it concerns that activity, clocks that there are, and finishes alone
abbrev pub has_quiet_step : ModuleValue → World → ℕ → Bool
has_quiet_step m w a = is_enabled m w a && not (option_map_or is_loud (next_instruction m w a) false)

-- In worlds that are reached, a quiet step prints nothing, is still there and quiet after another's step, and commutes with each step of another.
pub record QuietStepsGoFirst (m : ModuleValue) : Type 0 where
  pub silent : (w u : World) (a : ℕ) (e : Event) → has_quiet_step m w a ≡ true → step m w a ≡ Stepped u e → number_printed e ≡ None
  pub stays : (w v : World) (a b : ℕ) (f : Event) → IsReached m w → has_quiet_step m w a ≡ true → (b ≡ a → ⊥)
      → step m w b ≡ Stepped v f → has_quiet_step m v a ≡ true
  pub square : (w : World) (a b : ℕ) → IsReached m w → has_quiet_step m w a ≡ true → (b ≡ a → ⊥) → IsSquare m w a b

-- Of worlds that are alike the same activities can take a step, with the same event, to worlds that are alike; and in both or in neither all
-- have ended.
pub record AlikeWorldsGoAlike (m : ModuleValue) : Type 0 where
  pub steps : (w v u : World) (a : ℕ) (e : Event) → AreAlike w v → step m w a ≡ Stepped u e
      → (z : World) × (step m v a ≡ Stepped z e) × AreAlike u z
  pub ends : (w v : World) → AreAlike w v → all_ended w ≡ all_ended v
