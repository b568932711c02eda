-- Steps of two activities that commute.
use Rattle.std.specs.Prelude.{◌≡◌, ℕ, Bool, true, false}
use Rattle.std.specs.Option.{option_map_or}
use Rattle.xk_types.specs.declared.instr.Instr.{Instr}
use Rattle.xk_types.specs.declared.instr.Instr.TheVariants as instr
use Rattle.xk_types.specs.declared.world.Event.{Event}
use Rattle.xk_types.specs.Code.{ModuleValue}
use Rattle.xk_types.specs.World.{World}
use Rattle.xk_types.specs.Step.{Stepped, step}
use Rattle.xk_law_commute.specs.PlainWorlds.{AreAlike}
use Rattle.xk_law_commute.specs.Conflicts.{next_instruction}

-- it makes a clock
abbrev pub makes : Instr → Bool
makes (instr.Make k) = true
makes _ = false

-- it starts an activity
abbrev pub starts : Instr → Bool
starts (instr.Spawn u args) = true
starts _ = false

-- the next instruction of activity a makes a clock; starts an activity
abbrev pub makes_next : ModuleValue → World → ℕ → Bool
makes_next m w a = option_map_or makes (next_instruction m w a) false

abbrev pub starts_next : ModuleValue → World → ℕ → Bool
starts_next m w a = option_map_or starts (next_instruction m w a) false

-- Where activities a and b can both take a step, each still can after the other's, with the same event, and both orders lead to worlds that are
-- alike.
abbrev pub IsSquare : ModuleValue → World → ℕ → ℕ → Type 0
IsSquare m w a b = (u v : World) (e f : Event) → step m w a ≡ Stepped u e → step m w b ≡ Stepped v f
    → (x : World) × (y : World) × (step m v a ≡ Stepped x e) × (step m u b ≡ Stepped y f) × AreAlike x y
