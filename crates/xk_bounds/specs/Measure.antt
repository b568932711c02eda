-- The bounds of a module, as the verifier holds them. This project's own.
use Rattle.std.specs.Prelude.{◌≡◌, ℕ, ◌+◌, ◌*◌, min, ℤ, List, slice_index, None}
use Rattle.std.specs.Option.{option_map_or}
use Rattle.xk_types.specs.declared.instr.Instr.{Instr}
use Rattle.xk_types.specs.declared.instr.Instr.TheVariants as instr
use Rattle.xk_types.specs.Code.{UnitValue, ModuleValue, IsWithinLimits, unit_run, Loop, turns}
use Rattle.xk_types.specs.Bound.{visits, sum_from, total, steps_weight, activities_weight, clocks_weight, steps_bound, activities_bound, clocks_bound, stack_bound}
use Rattle.xk_types.specs.Acceptance.{IsAccepted}
use Rattle.xk_bounds.specs.declared.bounds.Bounds.{Bounds}
use Rattle.xk_bounds.specs.declared.bounds.Quantity.{Quantity}
use Rattle.xk_bounds.specs.declared.bounds.Quantity.TheVariants as quantity
use Rattle.xk_bounds.specs.Rooms.{AreRooms}

-- what an instruction itself adds to a quantity
abbrev pub weight_of : Quantity → Instr → ℕ
weight_of quantity.Steps i = steps_weight i
weight_of quantity.Activities i = activities_weight i
weight_of quantity.Clocks i = clocks_weight i

-- what it adds with the unit that it calls or starts, where a table says what each unit adds
abbrev pub added : (Instr → ℕ) → (ℕ → ℕ) → Instr → ℕ
added weight table i = weight i + option_map_or table (unit_run i) 0

-- what the instruction at a place of a unit adds each time that the unit is carried out
abbrev pub added_at : (Instr → ℕ) → (ℕ → ℕ) → UnitValue → ℕ → Instr → ℕ
added_at weight table u at i = visits u at * added weight table i

-- what the unit adds
abbrev pub added_by : (Instr → ℕ) → (ℕ → ℕ) → UnitValue → ℕ
added_by weight table u = sum_from (added_at weight table u) 0 u.code

-- a loop with these bounds
abbrev pub loop_between : ℤ → ℤ → Loop
loop_between lo hi = record { first = 0; last = 0; slot = 0; lo = lo; hi = hi; limit = None }

-- How often the next instruction is carried out, cut, where this one is `here` times, and the list says it of those before:
-- behind a loop as often as its head.
abbrev pub visits_next : ℕ → List ℕ → ℕ → Instr → ℕ
visits_next cut before here (instr.For k lo hi e) = min (here * turns (loop_between lo hi)) cut
visits_next cut before here (instr.ForTo k lo x hi e) = min (here * turns (loop_between lo hi)) cut
visits_next cut before here (instr.Next first) = slice_index before first
visits_next cut before here _ = here

-- they are those of the module, but that a sum above `cut` is told as `cut`
pub record AreCut (m : ModuleValue) (cut : ℕ) (b : Bounds) : Type 0 where
  pub steps : b.steps ≡ min (steps_bound m) cut
  pub activities : b.activities ≡ min (total activities_weight m 0) cut + 1
  pub clocks : b.clocks ≡ min (clocks_bound m) cut
  pub stack : b.stack ≡ stack_bound m
  pub rooms : AreRooms m b.rooms.items

-- they are those of the module
pub record AreBounds (m : ModuleValue) (b : Bounds) : Type 0 where
  pub steps : b.steps ≡ steps_bound m
  pub activities : b.activities ≡ activities_bound m
  pub clocks : b.clocks ≡ clocks_bound m
  pub stack : b.stack ≡ stack_bound m
  pub rooms : AreRooms m b.rooms.items

-- the module is accepted, and these are its bounds
pub record IsVerified (m : ModuleValue) (b : Bounds) : Type 0 where
  pub limits : IsWithinLimits m
  pub accepted : IsAccepted m
  pub bounds : AreBounds m b
