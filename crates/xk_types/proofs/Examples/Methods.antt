-- Methods: bounds, runs, and the rules on calls, by evaluation.
use Rattle.std.proofs.Common.{◌≡◌, ℕ, pos, List, [], ◌∷◌, inl, refl, Bool, true, false, Option, Some, None, replicate, map, arith}
use Rattle.xk_types.specs.declared.instr.Instr.{Instr}
use Rattle.xk_types.specs.declared.instr.Instr.TheVariants as instr
use Rattle.xk_types.specs.declared.unit.UnitKind.TheVariants as unit_kind
use Rattle.xk_types.specs.declared.unit.ParamKind.TheVariants as param
use Rattle.xk_types.specs.declared.world.Event.TheVariants as event
use Rattle.xk_types.specs.declared.rules.Rule.TheVariants as rule
use Rattle.xk_types.specs.declared.rules.Kind.TheVariants as kind
use Rattle.xk_types.specs.Code.{UnitValue, ModuleValue}
use Rattle.xk_types.specs.Step.{OutOfRange}
use Rattle.xk_types.specs.Schedule.{Course, Through, Held, Wronged, run, all_ended, printed, events}
use Rattle.xk_types.specs.Walk.{To, Refused, row, IsRefusedAt}
use Rattle.xk_types.specs.Shape.{breaks}
use Rattle.xk_types.specs.Bound.{total_within, chain_within, steps_bound, activities_bound, clocks_bound, stack_bound}
use Rattle.xk_types.proofs.Examples.Notation.{fresh, main_with, method_with, module_with, visit, cause_of}

-- ---- a method that waits for all clocks, of which it is lent one

abbrev stepping_main : UnitValue
stepping_main = main_with 2 (instr.Make 0 ∷ instr.Make 1 ∷ instr.Resume 1 ∷ instr.Call 1 (0 ∷ []) ∷ instr.Resume 1 ∷ instr.Ret ∷ [])

abbrev stepping : ModuleValue
stepping = module_with (stepping_main ∷ method_with (param.Clock ∷ []) 1 (instr.Advance ∷ instr.Ret ∷ []) ∷ [])

stepping_bounds : (steps_bound stepping ≡ 9) × (activities_bound stepping ≡ 1) × (clocks_bound stepping ≡ 2) × (stack_bound stepping ≡ 3)
unfolding total_within chain_within
stepping_bounds = (refl, refl, refl, refl)

-- each step, and where the clocks stand at the end: one advanced in step 5, the other in steps 3 and 8
abbrev looked : Course → Option (Bool × ℕ × List (ℕ × ℕ))
looked (Through w) = Some (all_ended w, w.steps, map (λ c. (c.phase, c.last)) w.clocks)
looked (Held w) = None
looked (Wronged w c) = None

stepping_ends : looked (run stepping (replicate 9 0) (fresh stepping)) ≡ Some (true, 9, (1, 5) ∷ (2, 8) ∷ [])
stepping_ends = refl

stepping_events : map (λ p. p.1) (events stepping (replicate 9 0) (fresh stepping))
    ≡ event.Made ∷ event.Made ∷ event.Resumed ∷ event.Local ∷ event.Arrived ∷ event.Passed ∷ event.Local ∷ event.Resumed ∷ event.Ended ∷ []
stepping_events = refl

-- behind the call both clocks may be live or resumed
stepping_rows : (row stepping stepping_main 0 (visit 3 kind.Live) ≡ To (kind.Live ∷ kind.Resumed ∷ []))
    × (row stepping stepping_main 0 (visit 3 kind.Resumed) ≡ To (kind.Live ∷ kind.Resumed ∷ []))
    × (row stepping stepping_main 1 (visit 3 kind.Resumed) ≡ To (kind.Live ∷ kind.Resumed ∷ []))
    × (row stepping stepping_main 1 (visit 3 kind.Live) ≡ To (kind.Live ∷ []))
    × (row stepping stepping_main 0 (visit 3 kind.Out) ≡ Refused rule.Use)
    × (row stepping stepping_main 1 (visit 3 kind.Out) ≡ To (kind.Out ∷ []))
stepping_rows = (refl, refl, refl, refl, refl, refl)

-- ---- what a method may not do

-- it keeps a clock that it made
abbrev keeping : UnitValue
keeping = method_with [] 1 (instr.Make 0 ∷ instr.Ret ∷ [])

keeping_refused : IsRefusedAt (module_with (main_with 0 (instr.Call 1 [] ∷ instr.Ret ∷ []) ∷ keeping ∷ [])) 1 0 (visit 1 kind.Live) rule.Leak
keeping_refused = record {
  u = keeping;
  found = refl;
  slot = omega arith;
  visited = (visit 0 kind.Unset ∷ visit 1 kind.Live ∷ [], (refl, inl refl, (record { place = inl refl; kind = inl refl }, tt)), refl);
  refused = refl;
}

-- at the `ret` of a method a clock that it was lent may be held, and one that it made may not; main loses nothing
ret_rows : (row (module_with []) (method_with (param.Clock ∷ []) 2 (instr.Ret ∷ [])) 0 (visit 0 kind.Live) ≡ To (kind.Live ∷ []))
    × (row (module_with []) (method_with (param.Clock ∷ []) 2 (instr.Ret ∷ [])) 1 (visit 0 kind.Resumed) ≡ Refused rule.Leak)
    × (row (module_with []) (method_with (param.Clock ∷ []) 2 (instr.Ret ∷ [])) 1 (visit 0 kind.Out) ≡ To (kind.Out ∷ []))
    × (row (module_with []) (main_with 2 (instr.Ret ∷ [])) 1 (visit 0 kind.Live) ≡ To (kind.Live ∷ []))
ret_rows = (refl, refl, refl, refl)

-- it drops a clock that it was lent; one that it made it may drop
abbrev dropping : ModuleValue
dropping = module_with (main_with 1 (instr.Make 0 ∷ instr.Call 1 (0 ∷ []) ∷ instr.Ret ∷ [])
    ∷ method_with (param.Clock ∷ []) 2 (instr.Drop 0 ∷ instr.Make 1 ∷ instr.Drop 1 ∷ instr.Ret ∷ []) ∷ [])

dropping_broken : map (breaks dropping rule.Home 1) (0 ∷ 1 ∷ 2 ∷ 3 ∷ []) ≡ true ∷ false ∷ false ∷ false ∷ []
dropping_broken = refl

-- ---- which units fit

-- a call of main, of a body, of a unit that isn't there, of the own unit, of an earlier one; a start of a method
abbrev body_of : List Instr → UnitValue
body_of code = record { kind = unit_kind.Body; params = []; slots = 0; code = code }

calls_amiss : (breaks (module_with (main_with 0 (instr.Call 0 [] ∷ instr.Ret ∷ []) ∷ [])) rule.Unit 0 0 ≡ true)
    × (breaks (module_with (main_with 0 (instr.Call 1 [] ∷ instr.Ret ∷ []) ∷ body_of (instr.Ret ∷ []) ∷ [])) rule.Unit 0 0 ≡ true)
    × (breaks (module_with (main_with 0 (instr.Call 1 [] ∷ instr.Ret ∷ []) ∷ [])) rule.Unit 0 0 ≡ true)
    × (breaks (module_with (main_with 0 (instr.Call 1 [] ∷ instr.Ret ∷ []) ∷ method_with [] 0 (instr.Call 1 [] ∷ instr.Ret ∷ []) ∷ [])) rule.Unit 1 0 ≡ true)
    × (breaks (module_with (main_with 0 (instr.Spawn 1 [] ∷ instr.Ret ∷ []) ∷ method_with [] 0 (instr.Ret ∷ []) ∷ [])) rule.Unit 0 0 ≡ true)
    × (breaks (module_with (main_with 0 (instr.Call 1 [] ∷ instr.Ret ∷ []) ∷ method_with [] 0 (instr.Ret ∷ []) ∷ [])) rule.Unit 0 0 ≡ false)
calls_amiss = (refl, refl, refl, refl, refl, refl)

-- a call of what is no method is wrong
call_of_main : cause_of (run (module_with (main_with 0 (instr.Call 0 [] ∷ instr.Ret ∷ []) ∷ [])) (0 ∷ [])
    (fresh (module_with (main_with 0 (instr.Call 0 [] ∷ instr.Ret ∷ []) ∷ [])))) ≡ Some OutOfRange
call_of_main = refl

-- ---- frames

-- main, a method that it calls twice, and one that this one calls: numbers are given by value
abbrev nested : ModuleValue
nested = module_with (
    main_with 1 (instr.Lit 0 (pos 2) ∷ instr.Call 1 (0 ∷ []) ∷ instr.Call 1 (0 ∷ []) ∷ instr.Print 0 ∷ instr.Ret ∷ [])
    ∷ method_with (param.Number ∷ []) 2 (instr.Add 0 0 0 ∷ instr.Call 2 (0 ∷ []) ∷ instr.Print 0 ∷ instr.Ret ∷ [])
    ∷ method_with (param.Number ∷ []) 60 (instr.Add 0 0 0 ∷ instr.Print 0 ∷ instr.Ret ∷ []) ∷ [])

nested_printed : printed nested (replicate 19 0) (fresh nested) ≡ pos 8 ∷ pos 4 ∷ pos 8 ∷ pos 4 ∷ pos 2 ∷ []
nested_printed = refl

nested_bounds : (steps_bound nested ≡ 19) × (stack_bound nested ≡ 63)
unfolding total_within chain_within
nested_bounds = (refl, refl)

nested_ends : looked (run nested (replicate 19 0) (fresh nested)) ≡ Some (true, 19, [])
nested_ends = refl
