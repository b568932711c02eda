-- How often the instructions of a unit are carried out, and what units add up to, as far as such numbers are told. This project's own.
use Rattle.std.specs.Prelude.{◌≡◌, ℕ, ℤ, ◌-ℤ◌, nat_abs, int_le, suc, ◌+◌, ◌<◌, min, nat_le, nat_lt, nat_eq, Bool, true, ◌&&◌, List, [], ◌∷◌}
use Rattle.std.specs.Prelude.{◌++◌, length, slice_index, codes, decimal, if◌then◌else◌}
use Rattle.std.specs.List.{list_all}
use Rattle.std.specs.Option.{option_map_or}
use Rattle.xk_types.specs.declared.instr.Instr.{Instr}
use Rattle.xk_types.specs.Code.{UnitValue, ModuleValue, unit_run}
use Rattle.xk_types.specs.Bound.{activities_weight, clocks_weight, stack_of, steps_weight, total, visits}
use Rattle.xk_bounds.specs.Measure.{added_by}
use Rattle.xk_bounds.specs.Rooms.{most_called}
use Rattle.xk_explain_bounds.specs.declared.remark.Subject.{Subject}
use Rattle.xk_explain_bounds.specs.declared.remark.Subject.TheVariants as subject

-- the greatest number that is told in digits: 10 to the power of 18
abbrev pub most_told : ℕ
most_told = 1000000000000000000

-- a number as it is kept: each that is greater as the next one
abbrev pub kept : ℕ → ℕ
kept n = min n 1000000000000000001

-- how many numbers there are from one to another; none where the first is greater
abbrev pub between : ℤ → ℤ → ℕ
between lo hi = if int_le lo hi then nat_abs (hi -ℤ lo) + 1 else 0

-- as it is told: `12`, or `over 1000000000000000000`
abbrev pub amount : ℕ → List ℕ
amount n = if nat_le n most_told then decimal n else codes "over 1000000000000000000"

-- what it counts: the first where it is one, and the other elsewhere
abbrev pub counted : ℕ → List ℕ → List ℕ → List ℕ
counted n one many = amount n ++ (if nat_eq n 1 then one else many)

-- how often each instruction of a unit is carried out in one run of it
pub record AreVisits (u : UnitValue) (counts : List ℕ) : Type 0 where
  pub all : length counts ≡ length u.code
  pub each : (at : ℕ) → at < length u.code → slice_index counts at ≡ kept (visits u at)

-- ---- units that run others

-- what an instruction of a unit calls or starts has a greater number
abbrev pub goes_up : ℕ → Instr → Bool
goes_up unit i = option_map_or (nat_lt unit) (unit_run i) true

-- the units from number n on do so
abbrev pub go_up_from : ℕ → List UnitValue → Bool
go_up_from n [] = true
go_up_from n (u ∷ us) = list_all (goes_up n) u.code && go_up_from (suc n) us

-- Each unit runs only such of greater number, as the rules on shape want it: then a unit's sum is finite, and no unit counts itself.
abbrev pub goes_up_only : ModuleValue → Bool
goes_up_only m = go_up_from 0 m.units

-- ---- what units come to

-- what each instruction adds itself; of slots nothing
abbrev pub weight_of : Subject → Instr → ℕ
weight_of subject.Steps = steps_weight
weight_of subject.Activities = activities_weight
weight_of subject.Clocks = clocks_weight
weight_of _ = λ i. 0

-- what a unit comes to: of steps, activities and clocks the sum, of slots those of its frames and of the calls from it
abbrev pub comes_to : Subject → ModuleValue → ℕ → ℕ
comes_to subject.Steps m unit = total steps_weight m unit
comes_to subject.Activities m unit = total activities_weight m unit
comes_to subject.Clocks m unit = total clocks_weight m unit
comes_to subject.Stack m unit = stack_of m unit
comes_to subject.Accepted m unit = 0

-- the same, where a table says what the units come to that it calls or starts
abbrev pub comes_to_by : Subject → (ℕ → ℕ) → UnitValue → ℕ
comes_to_by subject.Steps table u = added_by steps_weight table u
comes_to_by subject.Activities table u = added_by activities_weight table u
comes_to_by subject.Clocks table u = added_by clocks_weight table u
comes_to_by subject.Stack table u = u.slots + most_called table u.code
comes_to_by subject.Accepted table u = 0

-- what each unit comes to
pub record AreTotals (s : Subject) (m : ModuleValue) (totals : List ℕ) : Type 0 where
  pub all : length totals ≡ length m.units
  pub each : (unit : ℕ) → unit < length m.units → slice_index totals unit ≡ kept (comes_to s m unit)
