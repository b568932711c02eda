-- Activities with each other's number, and why both have to be there, and a clock to have a standing of each: by evaluation.
use Rattle.std.proofs.Common.{◌≡◌, ℕ, true, List, [], ◌∷◌, map, Some, refl}
use Rattle.xk_types.specs.declared.instr.Instr.TheVariants as instr
use Rattle.xk_types.specs.declared.unit.ParamKind.TheVariants as param
use Rattle.xk_types.specs.declared.world.Value.TheVariants as value
use Rattle.xk_types.specs.declared.world.Status.TheVariants as status
use Rattle.xk_types.specs.declared.world.Standing.{Standing}
use Rattle.xk_types.specs.declared.world.Standing.TheVariants as standing
use Rattle.xk_types.specs.declared.world.Value.{Value}
use Rattle.xk_types.specs.Code.{ModuleValue}
use Rattle.xk_types.specs.World.{Finish, Activity, World, root}
use Rattle.xk_types.specs.Step.{Blocked, Wrong, ClockUse, under_within, step}
use Rattle.xk_types.specs.Schedule.{Course, Through, Held, Wronged, run, is_enabled}
use Rattle.xk_types.proofs.Examples.Notation.{fresh, main_with, body_with, module_with}
use Rattle.xk_law_commute.specs.PlainWorlds.{plain}
use Rattle.xk_law_names.specs.ActivityNames.{activities_swapped, outcome_renamed}

-- ---- main and activity 1 stand at the end of a finish; under main's is activity 1, under that of 1 activity 2, at a `resume`

abbrev code : ModuleValue
code = module_with (main_with 0 (instr.EndFinish 0 ∷ []) ∷ body_with [] 0 (instr.EndFinish 0 ∷ [])
    ∷ body_with (param.Clock ∷ []) 1 (instr.Resume 0 ∷ []) ∷ [])

abbrev runs : ℕ → List Value → ℕ → Finish → Activity
runs unit slots opened governed = record {
  frame = record { unit = unit; place = 0; slots = slots };
  callers = [];
  status = status.Running;
  since = 0;
  opened = opened;
  governed = governed;
}

-- in the order of these, with a clock on which they stand so
abbrev world : List Activity → List Standing → World
world acts stands =
    record { activities = acts; clocks = record { phase = 0; last = 0; standings = stands } ∷ []; cells = []; steps = 0; arguments = [] }

-- the finish that an activity has open
abbrev finish_of : ℕ → Finish
finish_of a = record { owner = Some a; depth = 1 }

abbrev three : World
three =
    world (runs 0 [] 1 root ∷ runs 1 [] 1 (finish_of 0) ∷ runs 2 (value.Clock 0 ∷ []) 0 (finish_of 1) ∷ [])
    (standing.Apart ∷ standing.Signalled ∷ standing.Open ∷ [])

-- activities 1 and 2 have each other's number
exchanged : activities_swapped 1 three
    ≡ world
    (runs 0 [] 1 root ∷ runs 2 (value.Clock 0 ∷ []) 0 (finish_of 2) ∷ runs 1 [] 1 (finish_of 0) ∷ [])
    (standing.Apart ∷ standing.Open ∷ standing.Signalled ∷ [])
exchanged = refl

-- and main and 1
main_too : activities_swapped 0 three
    ≡ world
    (runs 1 [] 1 (finish_of 1) ∷ runs 0 [] 1 root ∷ runs 2 (value.Clock 0 ∷ []) 0 (finish_of 0) ∷ [])
    (standing.Signalled ∷ standing.Apart ∷ standing.Open ∷ [])
main_too = refl

-- the one resumes, by its number there
resumes : step code (activities_swapped 1 three) 1 ≡ outcome_renamed 1 (step code three 2)
resumes = refl

can_resume : is_enabled code three 2 ≡ true
can_resume = refl

-- the other waits for it
waits : step code (activities_swapped 1 three) 2 ≡ Blocked
unfolding under_within
waits = refl

-- and wouldn't, if the finish that governs it were still that of the number 1
abbrev same_owners : World
same_owners =
    world (runs 0 [] 1 root ∷ runs 2 (value.Clock 0 ∷ []) 0 (finish_of 1) ∷ runs 1 [] 1 (finish_of 0) ∷ [])
    (standing.Apart ∷ standing.Open ∷ standing.Signalled ∷ [])

wouldn't_wait : is_enabled code same_owners 2 ≡ true
unfolding under_within
wouldn't_wait = refl

-- ---- premises

-- number 3, which activity 2 would get of an exchange with one that isn't there, is nobody's
nobody : step code (activities_swapped 2 three) 3 ≡ Blocked
nobody = refl

-- a clock on which activity 1 stands and activity 0 doesn't, but nobody after it: there the exchange of 1 and 2 takes away where 1 stands
abbrev narrow : World
narrow = world (runs 0 [] 1 root ∷ runs 2 (value.Clock 0 ∷ []) 0 root ∷ runs 2 (value.Clock 0 ∷ []) 0 root ∷ [])
    (standing.Apart ∷ standing.Open ∷ [])

stood : is_enabled code narrow 1 ≡ true
stood = refl

lost : step code (activities_swapped 1 narrow) 2 ≡ Wrong ClockUse
lost = refl

-- ---- main and activity 1 start one each: of unit 2, and of unit 3

abbrev starters : ModuleValue
starters =
    module_with (main_with 0 (instr.Spawn 1 [] ∷ instr.Spawn 2 [] ∷ []) ∷ body_with [] 0 (instr.Spawn 3 [] ∷ []) ∷ body_with [] 0 []
    ∷ body_with [] 0 [] ∷ [])

-- the world that a run comes to, or stops in
abbrev last : Course → World
last (Through w) = w
last (Held w) = w
last (Wronged w c) = w

abbrev main_first : World
main_first = last (run starters (0 ∷ 0 ∷ 1 ∷ []) (fresh starters))

abbrev main_last : World
main_last = last (run starters (0 ∷ 1 ∷ 0 ∷ []) (fresh starters))

abbrev units_of : World → List ℕ
units_of w = map (λ (act : Activity). act.frame.unit) w.activities

in_order : units_of main_first ≡ 0 ∷ 1 ∷ 2 ∷ 3 ∷ []
in_order = refl

out_of_order : units_of main_last ≡ 0 ∷ 1 ∷ 3 ∷ 2 ∷ []
out_of_order = refl

same_but_for_names : plain (activities_swapped 2 main_last) ≡ plain main_first
same_but_for_names = refl
