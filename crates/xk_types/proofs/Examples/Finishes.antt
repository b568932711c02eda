-- Finishes: whom they wait for, programs that would be stuck, and what the verifier says of them, by evaluation.
use Rattle.std.proofs.Common.{◌≡◌, ℕ, pos, List, [], ◌∷◌, inl, refl, Bool, true, false, map, arith}
use Rattle.xk_types.specs.declared.instr.Instr.{Instr}
use Rattle.xk_types.specs.declared.instr.Instr.TheVariants as instr
use Rattle.xk_types.specs.declared.unit.ParamKind.TheVariants as param
use Rattle.xk_types.specs.declared.rules.Rule.TheVariants as rule
use Rattle.xk_types.specs.declared.rules.Kind.TheVariants as kind
use Rattle.xk_types.specs.Code.{UnitValue, ModuleValue}
use Rattle.xk_types.specs.Blocks.{block_at, homes}
use Rattle.xk_types.specs.Step.{under_within}
use Rattle.xk_types.specs.Schedule.{Course, Through, Held, Wronged, run, all_ended, printed}
use Rattle.xk_types.specs.Walk.{IsRefusedAt}
use Rattle.xk_types.specs.Shape.{breaks}
use Rattle.xk_types.specs.Bound.{total_within, stack_of, chain_within, frames_of, nesting, room_of, steps_bound, activities_bound, clocks_bound}
use Rattle.xk_types.proofs.Examples.Notation.{fresh, main_with, method_with, body_with, module_with, visit}

-- how many steps were taken, and whether all have ended, where the list is legal; where it isn't, before which of its members it stops
pub data Way : Type 0 where
  Goes : ℕ → Bool → Way
  Stops : ℕ → Way
  Fails : ℕ → Way

abbrev way : Course → Way
way (Through w) = Goes w.steps (all_ended w)
way (Held w) = Stops w.steps
way (Wronged w c) = Fails w.steps

-- ---- main opens a finish and starts an activity, which starts another

abbrev nested : ModuleValue
nested = module_with (
    main_with 1 (instr.Finish 2 ∷ instr.Spawn 1 [] ∷ instr.EndFinish 0 ∷ instr.Lit 0 (pos 2) ∷ instr.Print 0 ∷ instr.Ret ∷ [])
    ∷ body_with [] 0 (instr.Spawn 2 [] ∷ instr.Ret ∷ [])
    ∷ body_with [] 1 (instr.Lit 0 (pos 1) ∷ instr.Print 0 ∷ instr.Ret ∷ [])
    ∷ [])

nested_bounds : (steps_bound nested ≡ 11) × (activities_bound nested ≡ 3) × (clocks_bound nested ≡ 0)
unfolding total_within
nested_bounds = (refl, refl, refl)

-- The finish waits for the child, and for the grandchild too, though the child has ended.
nested_waits : (way (run nested (0 ∷ 0 ∷ 0 ∷ []) (fresh nested)) ≡ Stops 2) × (way (run nested (0 ∷ 0 ∷ 1 ∷ 1 ∷ 0 ∷ []) (fresh nested)) ≡ Stops 4)
unfolding under_within
nested_waits = (refl, refl)

-- 1 is printed before 2
nested_ends : (way (run nested (0 ∷ 0 ∷ 1 ∷ 1 ∷ 2 ∷ 2 ∷ 2 ∷ 0 ∷ 0 ∷ 0 ∷ 0 ∷ []) (fresh nested)) ≡ Goes 11 true)
    × (printed nested (0 ∷ 0 ∷ 1 ∷ 2 ∷ 2 ∷ 1 ∷ 2 ∷ 0 ∷ 0 ∷ 0 ∷ 0 ∷ []) (fresh nested) ≡ pos 1 ∷ pos 2 ∷ [])
unfolding under_within
nested_ends = (refl, refl)

-- ---- an activity that has a finish open itself, and whose child is awaited through it

abbrev through : ModuleValue
through = module_with (
    main_with 0 (instr.Finish 2 ∷ instr.Spawn 1 [] ∷ instr.EndFinish 0 ∷ instr.Ret ∷ [])
    ∷ body_with [] 0 (instr.Finish 2 ∷ instr.Spawn 2 [] ∷ instr.Ret ∷ [])
    ∷ body_with [] 0 (instr.Ret ∷ [])
    ∷ [])

-- (The module isn't accepted: activity 1 ends with its finish open. So main waits for activity 2 alone, which that finish governs.)
through_waits : (way (run through (0 ∷ 0 ∷ 1 ∷ 1 ∷ 1 ∷ 0 ∷ []) (fresh through)) ≡ Stops 5)
    × (way (run through (0 ∷ 0 ∷ 1 ∷ 1 ∷ 1 ∷ 2 ∷ 0 ∷ 0 ∷ []) (fresh through)) ≡ Goes 8 true)
unfolding under_within
through_waits = (refl, refl)

-- ---- no finish is open

closes_nothing : way (run (module_with (main_with 0 (instr.EndFinish 0 ∷ instr.Ret ∷ []) ∷ [])) (0 ∷ [])
    (fresh (module_with (main_with 0 (instr.EndFinish 0 ∷ instr.Ret ∷ []) ∷ [])))) ≡ Fails 0
closes_nothing = refl

-- ---- a clock that is made outside is handed on inside: the child would wait for main, and main for the child

abbrev outer : ModuleValue
outer = module_with (
    main_with 1 (instr.Make 0 ∷ instr.Finish 3 ∷ instr.Spawn 1 (0 ∷ []) ∷ instr.EndFinish 1 ∷ instr.Advance ∷ instr.Ret ∷ [])
    ∷ body_with (param.Clock ∷ []) 1 (instr.Advance ∷ instr.Ret ∷ [])
    ∷ [])

outer_registers : (breaks outer rule.Registers 0 2 ≡ true) × (breaks outer rule.Home 0 0 ≡ false) × (breaks outer rule.Block 0 1 ≡ false)
    × (breaks outer rule.Block 0 3 ≡ false) × (breaks outer rule.Registers 1 0 ≡ false)
outer_registers = (refl, refl, refl, refl, refl)

-- so they would: after three steps of main and one of the other, nobody is enabled
outer_stuck : (way (run outer (0 ∷ 0 ∷ 0 ∷ 1 ∷ 0 ∷ []) (fresh outer)) ≡ Stops 4) × (way (run outer (0 ∷ 0 ∷ 0 ∷ 1 ∷ 1 ∷ []) (fresh outer)) ≡ Stops 4)
unfolding under_within
outer_stuck = (refl, refl)

-- ---- a clock that is made inside is still held at the end

abbrev inner_main : UnitValue
inner_main = main_with 1 (instr.Finish 3 ∷ instr.Make 0 ∷ instr.Spawn 1 (0 ∷ []) ∷ instr.EndFinish 0 ∷ instr.Ret ∷ [])

abbrev inner : ModuleValue
inner = module_with (inner_main ∷ body_with (param.Clock ∷ []) 1 (instr.Advance ∷ instr.Ret ∷ []) ∷ [])

inner_blocks : (block_at inner_main 0 ≡ []) × (block_at inner_main 1 ≡ 0 ∷ []) × (block_at inner_main 3 ≡ 0 ∷ []) × (block_at inner_main 4 ≡ [])
    × (homes inner_main 0 ≡ (0 ∷ []) ∷ [])
inner_blocks = (refl, refl, refl, refl, refl)

inner_registers : breaks inner rule.Registers 0 2 ≡ false
inner_registers = refl

inner_held : IsRefusedAt inner 0 0 (visit 3 kind.Live) rule.Held
inner_held = record {
  u = inner_main;
  found = refl;
  slot = omega arith;
  visited = (
    visit 0 kind.Unset ∷ visit 1 kind.Unset ∷ visit 2 kind.Live ∷ visit 3 kind.Live ∷ [],
    (refl, inl refl, (record { place = inl refl; kind = inl refl }, (record { place = inl refl; kind = inl refl }, (record { place = inl refl; kind = inl refl }, tt)))),
    refl,
  );
  refused = refl;
}

-- with a `drop` before the end it isn't
abbrev dropped : ModuleValue
dropped = module_with (
    main_with 1 (instr.Finish 4 ∷ instr.Make 0 ∷ instr.Spawn 1 (0 ∷ []) ∷ instr.Drop 0 ∷ instr.EndFinish 0 ∷ instr.Ret ∷ [])
    ∷ body_with (param.Clock ∷ []) 1 (instr.Advance ∷ instr.Ret ∷ [])
    ∷ [])

dropped_bounds : (steps_bound dropped ≡ 9) × (activities_bound dropped ≡ 2) × (clocks_bound dropped ≡ 1)
unfolding total_within
dropped_bounds = (refl, refl, refl)

dropped_ends : way (run dropped (0 ∷ 0 ∷ 0 ∷ 1 ∷ 0 ∷ 1 ∷ 1 ∷ 0 ∷ 0 ∷ []) (fresh dropped)) ≡ Goes 9 true
unfolding under_within
dropped_ends = refl

-- ---- one slot is made in two blocks

abbrev moved_home : ModuleValue
moved_home = module_with (main_with 1 (instr.Make 0 ∷ instr.Drop 0 ∷ instr.Finish 5 ∷ instr.Make 0 ∷ instr.Drop 0 ∷ instr.EndFinish 2 ∷ instr.Ret ∷ []) ∷ [])

moved_home_breaks : (breaks moved_home rule.Home 0 0 ≡ false) × (breaks moved_home rule.Home 0 3 ≡ true)
moved_home_breaks = (refl, refl)

-- ---- a jump out of a finish, one to its `endfinish`, a finish and a loop that overlap, and a `finish` that nothing ends

abbrev jumps : List Instr → ModuleValue
jumps code = module_with (main_with 1 code ∷ [])

jump_out : breaks (jumps (instr.Finish 2 ∷ instr.Jump 3 ∷ instr.EndFinish 0 ∷ instr.Ret ∷ [])) rule.Block 0 1 ≡ true
jump_out = refl

jump_to_the_end : breaks (jumps (instr.Finish 2 ∷ instr.Jump 2 ∷ instr.EndFinish 0 ∷ instr.Ret ∷ [])) rule.Block 0 1 ≡ false
jump_to_the_end = refl

overlap : breaks (jumps (instr.Finish 2 ∷ instr.For 0 (pos 1) (pos 2) 3 ∷ instr.EndFinish 0 ∷ instr.Next 1 ∷ instr.Ret ∷ [])) rule.Block 0 0 ≡ true
overlap = refl

alone : (breaks (jumps (instr.Finish 1 ∷ instr.Ret ∷ [])) rule.Block 0 0 ≡ true) × (breaks (jumps (instr.Finish 1 ∷ instr.Ret ∷ [])) rule.Target 0 0 ≡ false)
alone = (refl, refl)

-- ---- rooms

-- Main opens a finish, and two more inside it, one behind the other, in the second of which it calls a method, and behind them it starts
-- a body that calls the same one; this opens a finish, and behind it calls another method, whose two are one in the other.
abbrev deep : ModuleValue
deep = module_with (
    main_with 2
    (instr.Finish 6 ∷ instr.Finish 2 ∷ instr.EndFinish 1 ∷ instr.Finish 5 ∷ instr.Call 2 [] ∷ instr.EndFinish 3 ∷ instr.EndFinish 0 ∷ instr.Spawn 1 [] ∷ instr.Ret ∷ [])
    ∷ body_with [] 64 (instr.Call 2 [] ∷ instr.Ret ∷ [])
    ∷ method_with [] 3 (instr.Finish 1 ∷ instr.EndFinish 0 ∷ instr.Call 3 [] ∷ instr.Ret ∷ [])
    ∷ method_with [] 5 (instr.Finish 3 ∷ instr.Finish 2 ∷ instr.EndFinish 1 ∷ instr.EndFinish 0 ∷ instr.Ret ∷ [])
    ∷ [])

deep_nesting : map nesting deep.units ≡ 2 ∷ 0 ∷ 1 ∷ 2 ∷ []
deep_nesting = refl

-- what a unit starts counts for none of these
deep_rooms : (map (room_of deep) (0 ∷ 1 ∷ 2 ∷ 3 ∷ 4 ∷ []) ≡ 5 ∷ 3 ∷ 3 ∷ 2 ∷ 0 ∷ []) × (map (frames_of deep) (0 ∷ 1 ∷ 2 ∷ 3 ∷ 4 ∷ []) ≡ 3 ∷ 3 ∷ 2 ∷ 1 ∷ 0 ∷ [])
    × (map (stack_of deep) (0 ∷ 1 ∷ 2 ∷ 3 ∷ 4 ∷ []) ≡ 10 ∷ 72 ∷ 8 ∷ 5 ∷ 0 ∷ [])
unfolding chain_within
deep_rooms = (refl, refl, refl)

-- three levels, and then one finish behind the other
abbrev three_deep : UnitValue
three_deep = main_with 0
    (instr.Finish 5 ∷ instr.Finish 4 ∷ instr.Finish 3 ∷ instr.EndFinish 2 ∷ instr.EndFinish 1 ∷ instr.EndFinish 0 ∷ instr.Finish 7 ∷ instr.EndFinish 6 ∷ instr.Ret ∷ [])

three_deep_nesting : nesting three_deep ≡ 3
three_deep_nesting = refl
