-- A module with a loop that is accepted: a clock is waited for in each of three turns, which a branch inside leaves alone.
use Rattle.std.proofs.Common.{ℕ, zero, suc, pos, List, [], ◌∷◌, refl, arith}
use Rattle.std.proofs.lemmas.List.Elements.{All-cons, All-nil, All-from_recursion}
use Rattle.xk_types.specs.declared.instr.Instr.TheVariants as instr
use Rattle.xk_types.specs.declared.instr.Comparison.TheVariants as comparison
use Rattle.xk_types.specs.declared.unit.UnitKind.TheVariants as unit_kind
use Rattle.xk_types.specs.declared.rules.Kind.{Kind}
use Rattle.xk_types.specs.declared.rules.Kind.TheVariants as kind
use Rattle.xk_types.specs.Code.{UnitValue, ModuleValue, IsUnitWithinLimits, IsWithinLimits}
use Rattle.xk_types.specs.Acceptance.{IsAccepted, EverySchedule}
use Rattle.xk_law_schedules.proofs.Examples.AcceptanceTest.{HasFewArguments, accepted_by}
use Rattle.xk_law_schedules.proofs.EveryScheduleLaw.{every_schedule}

-- its unit
abbrev phases_unit : UnitValue
phases_unit = record {
  kind = unit_kind.Main;
  params = [];
  slots = 2;
  code = instr.Make 0 ∷ instr.For 1 (pos 1) (pos 3) 5 ∷ instr.Unless comparison.Lt 1 1 4 ∷ instr.Resume 0 ∷ instr.Advance ∷ instr.Next 1 ∷ instr.Drop 0 ∷ instr.Ret ∷ [];
}

-- the module
abbrev pub phases_row : ModuleValue
phases_row = record { shared = []; units = phases_unit ∷ [] }

-- the clock's kinds at each place: it may have been resumed before the `advance`
abbrev clock_at : ℕ → List Kind
clock_at zero = kind.Unset ∷ []
clock_at (suc zero) = kind.Live ∷ []
clock_at (suc (suc zero)) = kind.Live ∷ []
clock_at (suc (suc (suc zero))) = kind.Live ∷ []
clock_at (suc (suc (suc (suc zero)))) = kind.Live ∷ kind.Resumed ∷ []
clock_at (suc (suc (suc (suc (suc zero))))) = kind.Live ∷ []
clock_at (suc (suc (suc (suc (suc (suc zero)))))) = kind.Live ∷ []
clock_at (suc (suc (suc (suc (suc (suc (suc at))))))) = kind.Out ∷ []

-- the kinds of both slots
abbrev kinds_at : ℕ → ℕ → List Kind
kinds_at zero at = clock_at at
kinds_at (suc s) zero = kind.Unset ∷ []
kinds_at (suc s) (suc zero) = kind.Unset ∷ []
kinds_at (suc s) (suc (suc at)) = kind.Number ∷ []

-- the module is accepted
pub phases_row_accepted : IsAccepted phases_row
unfolding Rattle.xk_types.specs.Bound.total_within Rattle.xk_types.specs.Bound.chain_within
phases_row_accepted = accepted_by phases_row (λ unit s at. kinds_at s at) refl refl
    (record { steps = omega arith; activities = omega arith; clocks = omega arith; stack = omega arith })

-- it is within the limits
pub phases_row_limits : IsWithinLimits phases_row
phases_row_limits = record {
  some = omega arith;
  units = omega arith;
  shared = omega arith;
  each = All-cons IsUnitWithinLimits phases_unit []
      (record { slots = omega arith; params = omega arith; code = omega arith; arguments = All-from_recursion HasFewArguments phases_unit.code (omega arith) })
      (All-nil IsUnitWithinLimits);
}

-- the law says something of it
pub phases_row_law : EverySchedule phases_row
phases_row_law = every_schedule phases_row phases_row_limits phases_row_accepted
