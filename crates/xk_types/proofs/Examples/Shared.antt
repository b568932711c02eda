-- Shared numbers: a sum that is the same in every order, and one that loses a part, by evaluation.
use Rattle.std.proofs.Common.{◌≡◌, ℤ, pos, List, [], ◌∷◌, refl, Bool, true, false}
use Rattle.xk_types.specs.declared.instr.Instr.{Instr}
use Rattle.xk_types.specs.declared.instr.Instr.TheVariants as instr
use Rattle.xk_types.specs.declared.unit.ParamKind.TheVariants as param
use Rattle.xk_types.specs.declared.world.Event.TheVariants as event
use Rattle.xk_types.specs.declared.rules.Rule.TheVariants as rule
use Rattle.xk_types.specs.Code.{ModuleValue}
use Rattle.xk_types.specs.Step.{Cause, Missing, OutOfRange, under_within}
use Rattle.xk_types.specs.Schedule.{Course, Through, Held, Wronged, run, all_ended, printed, events}
use Rattle.xk_types.specs.Shape.{breaks}
use Rattle.xk_types.specs.Bound.{total_within, steps_bound, activities_bound, clocks_bound}
use Rattle.xk_types.proofs.Examples.Notation.{fresh, main_with, body_with}

-- what a list comes to: the shared numbers and whether all have ended, or why it stops
pub data Way : Type 0 where
  Leaves : List ℤ → Bool → Way
  Stops : Way
  Fails : Cause → Way

abbrev pub way : Course → Way
way (Through w) = Leaves w.cells (all_ended w)
way (Held w) = Stops
way (Wronged w c) = Fails c

-- ---- three activities add 1, 2 and 3 to a number, and main prints it once they have ended

abbrev sum : ModuleValue
sum = record {
  shared = pos 0 ∷ [];
  units =
      main_with 2 (instr.Finish 4 ∷ instr.For 0 (pos 1) (pos 3) 3 ∷ instr.Spawn 1 (0 ∷ []) ∷ instr.Next 1 ∷ instr.EndFinish 0 ∷ instr.Get 1 0 ∷ instr.Print 1 ∷ instr.Ret ∷ [])
      ∷ body_with (param.Number ∷ []) 1 (instr.AddTo 0 0 ∷ instr.Ret ∷ []) ∷ [];
}

sum_bounds : (steps_bound sum ≡ 18) × (activities_bound sum ≡ 4) × (clocks_bound sum ≡ 0)
unfolding total_within
sum_bounds = (refl, refl, refl)

-- in any order the sum is the same
sum_ends : (way (run sum (0 ∷ 0 ∷ 0 ∷ 0 ∷ 0 ∷ 0 ∷ 0 ∷ 0 ∷ 3 ∷ 1 ∷ 2 ∷ 3 ∷ 2 ∷ 1 ∷ 0 ∷ 0 ∷ 0 ∷ 0 ∷ []) (fresh sum)) ≡ Leaves (pos 6 ∷ []) true)
    × (printed sum (0 ∷ 0 ∷ 0 ∷ 1 ∷ 1 ∷ 0 ∷ 0 ∷ 2 ∷ 2 ∷ 0 ∷ 0 ∷ 3 ∷ 3 ∷ 0 ∷ 0 ∷ 0 ∷ 0 ∷ 0 ∷ []) (fresh sum) ≡ pos 6 ∷ [])
unfolding under_within
sum_ends = (refl, refl)

sum_shape : (breaks sum rule.Cell 0 5 ≡ false) × (breaks sum rule.Cell 1 0 ≡ false)
sum_shape = (refl, refl)

-- ---- what is written is read, and each step is seen

abbrev passes : ModuleValue
passes = record {
  shared = pos 7 ∷ pos 8 ∷ [];
  units = main_with 1 (instr.Get 0 1 ∷ instr.Put 0 0 ∷ instr.AddTo 1 0 ∷ instr.Ret ∷ []) ∷ [];
}

passes_ends : way (run passes (0 ∷ 0 ∷ 0 ∷ 0 ∷ []) (fresh passes)) ≡ Leaves (pos 8 ∷ pos 16 ∷ []) true
passes_ends = refl

passes_events : events passes (0 ∷ 0 ∷ 0 ∷ 0 ∷ []) (fresh passes) ≡ (0, event.Got) ∷ (0, event.Put) ∷ (0, event.Added) ∷ (0, event.Ended) ∷ []
passes_events = refl

-- ---- what goes wrong: no such number, an unset slot

abbrev alone : List Instr → ModuleValue
alone code = record { shared = []; units = main_with 1 code ∷ [] }

no_cell : (way (run (alone (instr.Get 0 0 ∷ instr.Ret ∷ [])) (0 ∷ []) (fresh (alone (instr.Get 0 0 ∷ instr.Ret ∷ [])))) ≡ Fails OutOfRange)
    × (breaks (alone (instr.Get 0 0 ∷ instr.Ret ∷ [])) rule.Cell 0 0 ≡ true) × (breaks (alone (instr.Get 0 0 ∷ instr.Ret ∷ [])) rule.Cell 0 1 ≡ false)
no_cell = (refl, refl, refl)

unset : way (run (alone (instr.Put 0 0 ∷ instr.Ret ∷ [])) (0 ∷ []) (fresh (alone (instr.Put 0 0 ∷ instr.Ret ∷ [])))) ≡ Fails Missing
unset = refl
