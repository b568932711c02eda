-- A module of one activity that is accepted: 2 + 3, a clock that is made and waited for once.
use Rattle.std.proofs.Common.{ℕ, zero, suc, pos, [], ◌∷◌, refl, arith}
use Rattle.std.proofs.lemmas.List.Elements.{All-cons, All-nil, All-from_recursion}
use Rattle.xk_types.specs.declared.instr.Instr.TheVariants as instr
use Rattle.xk_types.specs.declared.unit.UnitKind.TheVariants as unit_kind
use Rattle.xk_types.specs.declared.rules.Kind.{Kind}
use Rattle.xk_types.specs.declared.rules.Kind.TheVariants as kind
use Rattle.xk_types.specs.Code.{UnitValue, ModuleValue, IsUnitWithinLimits, IsWithinLimits}
use Rattle.xk_types.specs.Acceptance.{IsAccepted, EverySchedule}
use Rattle.xk_law_schedules.proofs.Examples.AcceptanceTest.{HasFewArguments, accepted_by}
use Rattle.xk_law_schedules.proofs.EveryScheduleLaw.{every_schedule}

-- its unit
abbrev sum_unit : UnitValue
sum_unit = record {
  kind = unit_kind.Main;
  params = [];
  slots = 3;
  code = instr.Lit 0 (pos 2) ∷ instr.Lit 1 (pos 3) ∷ instr.Add 0 0 1 ∷ instr.Make 2 ∷ instr.Advance ∷ instr.Print 0 ∷ instr.Ret ∷ [];
}

-- the module
abbrev pub sum_row : ModuleValue
sum_row = record { shared = []; units = sum_unit ∷ [] }

-- the kind of each of the three slots at each place
abbrev kind_at : ℕ → ℕ → Kind
kind_at zero zero = kind.Unset
kind_at zero (suc at) = kind.Number
kind_at (suc zero) zero = kind.Unset
kind_at (suc zero) (suc zero) = kind.Unset
kind_at (suc zero) (suc (suc at)) = kind.Number
kind_at (suc (suc s)) zero = kind.Unset
kind_at (suc (suc s)) (suc zero) = kind.Unset
kind_at (suc (suc s)) (suc (suc zero)) = kind.Unset
kind_at (suc (suc s)) (suc (suc (suc zero))) = kind.Unset
kind_at (suc (suc s)) (suc (suc (suc (suc at)))) = kind.Live

-- the module is accepted
pub sum_row_accepted : IsAccepted sum_row
unfolding Rattle.xk_types.specs.Bound.total_within Rattle.xk_types.specs.Bound.chain_within
sum_row_accepted = accepted_by sum_row (λ unit s at. kind_at s at ∷ []) refl refl
    (record { steps = omega arith; activities = omega arith; clocks = omega arith; stack = omega arith })

-- it is within the limits
pub sum_row_limits : IsWithinLimits sum_row
sum_row_limits = record {
  some = omega arith;
  units = omega arith;
  shared = omega arith;
  each = All-cons IsUnitWithinLimits sum_unit []
      (record { slots = omega arith; params = omega arith; code = omega arith; arguments = All-from_recursion HasFewArguments sum_unit.code (omega arith) })
      (All-nil IsUnitWithinLimits);
}

-- the law says something of it
pub sum_row_law : EverySchedule sum_row
sum_row_law = every_schedule sum_row sum_row_limits sum_row_accepted
