-- Modules of one unit: bounds, runs, wrong outcomes and refusals, by evaluation.
use Rattle.std.proofs.Common.{◌≡◌, ℕ, pos, List, [], ◌∷◌, refl, true, false, Option, Some, None, replicate}
use Rattle.xk_types.specs.declared.instr.Instr.TheVariants as instr
use Rattle.xk_types.specs.declared.unit.UnitKind.TheVariants as unit_kind
use Rattle.xk_types.specs.declared.world.Event.TheVariants as event
use Rattle.xk_types.specs.declared.rules.Rule.TheVariants as rule
use Rattle.xk_types.specs.declared.rules.Kind.TheVariants as kind
use Rattle.xk_types.specs.Code.{ModuleValue}
use Rattle.xk_types.specs.World.{World}
use Rattle.xk_types.specs.Step.{ClockUse, Missing, OutOfRange}
use Rattle.xk_types.specs.Schedule.{Course, Through, Held, Wronged, run, is_enabled, printed, events}
use Rattle.xk_types.specs.Walk.{Refused, row}
use Rattle.xk_types.specs.Shape.{breaks}
use Rattle.xk_types.specs.Bound.{steps_bound, activities_bound, clocks_bound, stack_bound}
use Rattle.xk_types.proofs.Examples.Notation.{fresh, main_only, looked, cause_of}

abbrev last_world : Course → Option World
last_world (Through w) = Some w
last_world (Held w) = None
last_world (Wronged w c) = None

-- 2 + 3, a clock that is made and waited for once
abbrev sum_row : ModuleValue
sum_row = main_only 3 (instr.Lit 0 (pos 2) ∷ instr.Lit 1 (pos 3) ∷ instr.Add 0 0 1 ∷ instr.Make 2 ∷ instr.Advance ∷ instr.Print 0 ∷ instr.Ret ∷ [])

sum_bounds : (steps_bound sum_row ≡ 8) × (activities_bound sum_row ≡ 1) × (clocks_bound sum_row ≡ 1) × (stack_bound sum_row ≡ 3)
unfolding Rattle.xk_types.specs.Bound.total_within Rattle.xk_types.specs.Bound.chain_within
sum_bounds = (refl, refl, refl, refl)

abbrev eight : List ℕ
eight = replicate 8 0

-- it prints 5
sum_printed : printed sum_row eight (fresh sum_row) ≡ pos 5 ∷ []
sum_printed = refl

sum_events : events sum_row eight (fresh sum_row)
    ≡ (0, event.Local) ∷ (0, event.Local) ∷ (0, event.Local) ∷ (0, event.Made) ∷ (0, event.Arrived) ∷ (0, event.Passed) ∷ (0, event.Printed (pos 5)) ∷ (0, event.Ended) ∷ []
sum_events = refl

-- all have ended after eight steps; the clock advanced once, in the fifth
sum_ended : looked (last_world (run sum_row eight (fresh sum_row))) ≡ Some (true, 8, (1, 5) ∷ [])
sum_ended = refl

-- a ninth step is blocked
sum_over : last_world (run sum_row (replicate 9 0) (fresh sum_row)) ≡ None
sum_over = refl

-- nobody but main can step
sum_other : is_enabled sum_row (fresh sum_row) 1 ≡ false
sum_other = refl

-- a clock that was never made is dropped
abbrev drop_row : ModuleValue
drop_row = main_only 1 (instr.Drop 0 ∷ instr.Ret ∷ [])

drop_wrong : run drop_row (0 ∷ []) (fresh drop_row) ≡ Wronged (fresh drop_row) Missing
drop_wrong = refl

drop_refused : row drop_row (record { kind = unit_kind.Main; params = []; slots = 1; code = instr.Drop 0 ∷ instr.Ret ∷ [] }) 0
    (record { at = 0; kind = kind.Unset }) ≡ Refused rule.Use
drop_refused = refl

-- a clock is dropped twice: ClockUseException
abbrev twice_row : ModuleValue
twice_row = main_only 1 (instr.Make 0 ∷ instr.Drop 0 ∷ instr.Drop 0 ∷ instr.Ret ∷ [])

twice_wrong : cause_of (run twice_row (0 ∷ 0 ∷ 0 ∷ []) (fresh twice_row)) ≡ Some ClockUse
twice_wrong = refl

-- a clock is overwritten while main is registered on it
leak_refused : row drop_row (record { kind = unit_kind.Main; params = []; slots = 1; code = instr.Make 0 ∷ instr.Lit 0 (pos 1) ∷ instr.Ret ∷ [] }) 0
    (record { at = 1; kind = kind.Live }) ≡ Refused rule.Leak
leak_refused = refl

-- a slot that the unit doesn't have
abbrev slot_row : ModuleValue
slot_row = main_only 1 (instr.Lit 1 (pos 1) ∷ instr.Ret ∷ [])

slot_breaks : (breaks slot_row rule.Slot 0 0 ≡ true) × (breaks slot_row rule.Slot 0 1 ≡ false) × (breaks slot_row rule.End 0 1 ≡ false)
slot_breaks = (refl, refl, refl)

slot_wrong : cause_of (run slot_row (0 ∷ []) (fresh slot_row)) ≡ Some OutOfRange
slot_wrong = refl

-- no `ret`, and no code at all
end_breaks : (breaks (main_only 1 (instr.Advance ∷ [])) rule.End 0 0 ≡ true) × (breaks (main_only 1 []) rule.End 0 0 ≡ true)
    × (breaks (main_only 1 (instr.Ret ∷ instr.Ret ∷ [])) rule.End 0 0 ≡ true) × (breaks (main_only 1 (instr.Ret ∷ instr.Ret ∷ [])) rule.End 0 1 ≡ false)
end_breaks = (refl, refl, refl, refl)

-- two resumes and an `advance`: the clock advances at the first, and main doesn't wait
abbrev resume_row : ModuleValue
resume_row = main_only 1 (instr.Make 0 ∷ instr.Resume 0 ∷ instr.Resume 0 ∷ instr.Advance ∷ instr.Drop 0 ∷ instr.Ret ∷ [])

resume_ended : (steps_bound resume_row ≡ 7) × (looked (last_world (run resume_row (replicate 7 0) (fresh resume_row))) ≡ Some (true, 7, (1, 2) ∷ []))
unfolding Rattle.xk_types.specs.Bound.total_within
resume_ended = (refl, refl)
