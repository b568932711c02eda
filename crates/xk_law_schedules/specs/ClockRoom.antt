-- How much room a world's clocks want, and what its activities are registered on.
use Rattle.std.specs.Prelude.{◌≡◌, ℕ, ◌<◌, ◌≤◌, List, length, Some, slice_get}
use Rattle.std.specs.List.{count_by}
use Rattle.xk_types.specs.declared.instr.Instr.TheVariants as instr
use Rattle.xk_types.specs.declared.world.Status.TheVariants as status
use Rattle.xk_types.specs.Code.{ModuleValue}
use Rattle.xk_types.specs.World.{Activity, Clock, World, standing_of, base_unit, instruction_at}
use Rattle.xk_types.specs.Step.{is_registered}
use Rattle.xk_types.specs.Bound.{clocks_bound, places_from}

-- on how many of these clocks activity a is registered
abbrev pub registrations : List Clock → ℕ → ℕ
registrations clocks a = count_by (λ c. is_registered (standing_of c a)) clocks

-- on how many it may be, by the unit that it began with
abbrev pub places_of : ModuleValue → Activity → ℕ
places_of m act = places_from m (base_unit act)

-- no more clocks than verified, and no more registrations of an activity than it has places
pub record HasRoom (m : ModuleValue) (w : World) : Type 0 where
  pub clocks : length w.clocks ≤ clocks_bound m
  pub places : (a : ℕ) (act : Activity) → slice_get w.activities a ≡ Some act → registrations w.clocks a ≤ places_of m act

-- one clock less, and one registration of activity a
pub record HasRoomLeft (m : ModuleValue) (w : World) (a : ℕ) : Type 0 where
  pub clocks : length w.clocks < clocks_bound m
  pub places : (act : Activity) → slice_get w.activities a ≡ Some act → registrations w.clocks a < places_of m act

-- activity a runs, and stands at an instruction that makes a clock
pub record IsAboutToMake (m : ModuleValue) (w : World) (a : ℕ) : Type 0 where
  pub act : Activity
  pub there : slice_get w.activities a ≡ Some act
  pub running : act.status ≡ status.Running
  pub slot : ℕ
  pub makes : instruction_at m act.frame ≡ Some (instr.Make slot)
