-- Two that make a clock, in either order; and why both of the clocks that change places have to be there: by evaluation.
use Rattle.std.proofs.Common.{◌≡◌, ℕ, List, [], ◌∷◌, get_or, refl}
use Rattle.xk_types.specs.declared.instr.Instr.TheVariants as instr
use Rattle.xk_types.specs.declared.world.Value.{Value}
use Rattle.xk_types.specs.declared.world.Value.TheVariants as value
use Rattle.xk_types.specs.declared.world.Event.TheVariants as event
use Rattle.xk_types.specs.Code.{ModuleValue}
use Rattle.xk_types.specs.World.{World, main_of}
use Rattle.xk_types.specs.Step.{Stepped, Wrong, OutOfRange, step}
use Rattle.xk_types.specs.Schedule.{Course, Through, Held, Wronged, run}
use Rattle.xk_types.proofs.Examples.Notation.{fresh, main_with, body_with, module_with}
use Rattle.xk_law_commute.specs.PlainWorlds.{AreAlike}
use Rattle.xk_law_names.specs.ClockNames.{clocks_swapped}

-- the world that a run comes to, if it comes through
abbrev last_of : World → Course → World
last_of w (Through v) = v
last_of w (Held v) = w
last_of w (Wronged v c) = w

abbrev last : ModuleValue → List ℕ → World
last m list = last_of (fresh m) (run m list (fresh m))

-- the slots of activity a
abbrev slots_in : World → ℕ → List Value
slots_in w a = (get_or w.activities a (main_of (module_with []) [])).frame.slots

-- main starts an activity; both make a clock, and resume it
abbrev makers : ModuleValue
makers = module_with (main_with 1 (instr.Spawn 1 [] ∷ instr.Make 0 ∷ instr.Resume 0 ∷ instr.Ret ∷ [])
    ∷ body_with [] 1 (instr.Make 0 ∷ instr.Resume 0 ∷ instr.Ret ∷ []) ∷ [])

-- main's clock is the first, and the second
abbrev main_first : World
main_first = last makers (0 ∷ 0 ∷ 1 ∷ [])

abbrev main_last : World
main_last = last makers (0 ∷ 1 ∷ 0 ∷ [])

makers_names : (slots_in main_first 0 ≡ value.Clock 0 ∷ []) × (slots_in main_first 1 ≡ value.Clock 1 ∷ [])
    × (slots_in main_last 0 ≡ value.Clock 1 ∷ []) × (slots_in main_last 1 ≡ value.Clock 0 ∷ [])
makers_names = (refl, refl, refl, refl)

-- but for the names the two are alike
makers_alike : AreAlike (clocks_swapped 0 main_last) main_first
makers_alike = refl

-- one clock alone has no neighbour: its name would go to a number that no clock has, and its maker couldn't resume it
abbrev alone : World
alone = last makers (0 ∷ 0 ∷ [])

alone_steps : step makers alone 0 ≡ Stepped (last makers (0 ∷ 0 ∷ 0 ∷ [])) event.Resumed
alone_steps = refl

alone_wrong : step makers (clocks_swapped 0 alone) 0 ≡ Wrong OutOfRange
alone_wrong = refl
