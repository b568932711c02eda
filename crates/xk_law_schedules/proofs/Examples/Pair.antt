-- A module of two activities that is accepted: main makes a clock, starts an activity with it and a number, and both wait
-- for the clock once.
use Rattle.xk_law_schedules.proofs.Examples.Opening.{fresh}
use Rattle.std.proofs.Common.{◌≡◌, ℕ, zero, suc, pos, Bool, true, false, List, [], ◌∷◌, length, refl, arith}
use Rattle.std.proofs.lemmas.List.Elements.{All-cons, All-nil, All-from_recursion}
use Rattle.xk_types.specs.declared.instr.Instr.TheVariants as instr
use Rattle.xk_types.specs.declared.unit.UnitKind.TheVariants as unit_kind
use Rattle.xk_types.specs.declared.unit.ParamKind.TheVariants as param
use Rattle.xk_types.specs.declared.rules.Kind.{Kind}
use Rattle.xk_types.specs.declared.rules.Kind.TheVariants as kind
use Rattle.xk_types.specs.Code.{UnitValue, ModuleValue, IsUnitWithinLimits, IsWithinLimits}
use Rattle.xk_types.specs.Schedule.{Course, Through, Held, Wronged, run, all_ended, printed}
use Rattle.xk_types.specs.Bound.{steps_bound, activities_bound, clocks_bound}
use Rattle.xk_types.specs.Acceptance.{IsAccepted, EverySchedule}
use Rattle.xk_law_schedules.proofs.Examples.AcceptanceTest.{HasFewArguments, accepted_by}
use Rattle.xk_law_schedules.proofs.EveryScheduleLaw.{every_schedule}

-- main
abbrev main_unit : UnitValue
main_unit = record {
  kind = unit_kind.Main;
  params = [];
  slots = 2;
  code = instr.Make 0 ∷ instr.Lit 1 (pos 5) ∷ instr.Spawn 1 (0 ∷ 1 ∷ []) ∷ instr.Advance ∷ instr.Drop 0 ∷ instr.Ret ∷ [];
}

-- what it starts
abbrev body_unit : UnitValue
body_unit = record {
  kind = unit_kind.Body;
  params = param.Clock ∷ param.Number ∷ [];
  slots = 3;
  code = instr.Lit 2 (pos 7) ∷ instr.Add 1 1 2 ∷ instr.Advance ∷ instr.Print 1 ∷ instr.Ret ∷ [];
}

-- the module
abbrev pub pair_row : ModuleValue
pair_row = record { shared = []; units = main_unit ∷ body_unit ∷ [] }

-- ---- accepted

-- the kinds of each slot of main at each place
abbrev main_kinds : ℕ → ℕ → List Kind
main_kinds zero zero = kind.Unset ∷ []
main_kinds zero (suc (suc (suc (suc (suc at))))) = kind.Out ∷ []
main_kinds zero at = kind.Live ∷ []
main_kinds (suc s) zero = kind.Unset ∷ []
main_kinds (suc s) (suc zero) = kind.Unset ∷ []
main_kinds (suc s) (suc (suc at)) = kind.Number ∷ []

-- of what it starts
abbrev body_kinds : ℕ → ℕ → List Kind
body_kinds zero at = kind.Live ∷ kind.Resumed ∷ []
body_kinds (suc zero) at = kind.Number ∷ []
body_kinds (suc (suc s)) zero = kind.Unset ∷ []
body_kinds (suc (suc s)) (suc at) = kind.Number ∷ []

abbrev pair_kinds : ℕ → ℕ → ℕ → List Kind
pair_kinds zero = main_kinds
pair_kinds (suc unit) = body_kinds

-- the module is accepted
pub pair_row_accepted : IsAccepted pair_row
unfolding Rattle.xk_types.specs.Bound.total_within Rattle.xk_types.specs.Bound.chain_within
pair_row_accepted = accepted_by pair_row pair_kinds refl refl (record { steps = omega arith; activities = omega arith; clocks = omega arith; stack = omega arith })

-- it is within the limits
pub pair_row_limits : IsWithinLimits pair_row
pair_row_limits = record {
  some = omega arith;
  units = omega arith;
  shared = omega arith;
  each = All-cons IsUnitWithinLimits main_unit (body_unit ∷ [])
      (record { slots = omega arith; params = omega arith; code = omega arith; arguments = All-from_recursion HasFewArguments main_unit.code (omega arith) })
      (All-cons IsUnitWithinLimits body_unit []
      (record { slots = omega arith; params = omega arith; code = omega arith; arguments = All-from_recursion HasFewArguments body_unit.code (omega arith) })
      (All-nil IsUnitWithinLimits));
}

-- the law says something of it
pub pair_row_law : EverySchedule pair_row
pair_row_law = every_schedule pair_row pair_row_limits pair_row_accepted

-- ---- a run

-- a list comes through to the end of all activities
abbrev comes_to_end : Course → Bool
comes_to_end (Through w) = all_ended w
comes_to_end (Held w) = false
comes_to_end (Wronged w c) = false

-- main waits for the other activity, which prints after the clock has advanced
abbrev pair_list : List ℕ
pair_list = 0 ∷ 0 ∷ 0 ∷ 0 ∷ 1 ∷ 1 ∷ 1 ∷ 0 ∷ 0 ∷ 0 ∷ 1 ∷ 1 ∷ 1 ∷ []

-- it takes as many steps as the bound has
pub pair_run : (comes_to_end (run pair_row pair_list (fresh pair_row)) ≡ true) × (printed pair_row pair_list (fresh pair_row) ≡ pos 12 ∷ [])
    × (steps_bound pair_row ≡ length pair_list) × (activities_bound pair_row ≡ 2) × (clocks_bound pair_row ≡ 1)
unfolding Rattle.xk_types.specs.Bound.total_within Rattle.xk_types.specs.Bound.chain_within
pair_run = (refl, refl, refl, refl, refl)
