-- How far a schedule goes from a world, and what is seen on the way. This project's own.
use Rattle.std.specs.Prelude.{◌≡◌, ℕ, ◌⊎◌, ⊤, false, List, [], ◌∷◌, Some, map, take, slice_get, if◌then◌else◌}
use Rattle.xk_types.specs.declared.world.Event.{Event}
use Rattle.xk_types.specs.Code.{ModuleValue}
use Rattle.xk_types.specs.World.{World}
use Rattle.xk_types.specs.Schedule.{Through, run, is_enabled, is_local, seen}
use Rattle.xk_core.specs.Core.{CoreValue, IsAboutToGrow}
use Rattle.xk_scheduler.specs.declared.schedule.Halt.{Halt}
use Rattle.xk_scheduler.specs.declared.schedule.Halt.TheVariants as halt

-- what is seen of a step: nothing where it is local
abbrev pub shown : Event → List Event
shown e = if is_local e then [] else e ∷ []

-- the events that a schedule shows, in order
abbrev pub events_seen : ModuleValue → List ℕ → World → List Event
events_seen m list w = map (λ p. p.1) (seen m list w)

-- the first `at` steps of the list lead from w to v
abbrev pub LeadsPart : ModuleValue → List ℕ → World → ℕ → World → Type 0
LeadsPart m list w at v = run m (take at list) w ≡ Through v

-- the first `at` steps of the list lead from w to v, where the activity that is named next isn't enabled
abbrev pub StopsAt : ModuleValue → List ℕ → World → ℕ → World → Type 0
StopsAt m list w at v = LeadsPart m list w at v × (a : ℕ) × (slice_get list at ≡ Some a) × (is_enabled m v a ≡ false)

-- the first `at` steps of the list lead from w to v, one is left, and memory was wanted: for the list of events before the
-- first step, or because the activity that is named next is about to start another
abbrev pub WantsMemoryAt : ModuleValue → List ℕ → World → ℕ → World → Type 0
WantsMemoryAt m list w at v = LeadsPart m list w at v × (a : ℕ) × (slice_get list at ≡ Some a) × ((at ≡ 0) ⊎ IsAboutToGrow m v a)

-- how a schedule was halted that a core was to carry out
abbrev pub IsHalt : CoreValue → List ℕ → Halt → Type 0
IsHalt c list (halt.NotEnabled at d) = (d.module_run ≡ c.module_run) × StopsAt c.module_run list c.world at d.world
IsHalt c list (halt.OutOfMemory at d) = (d.module_run ≡ c.module_run) × WantsMemoryAt c.module_run list c.world at d.world

-- it was halted for want of memory
abbrev pub IsOutOfMemory : Halt → Type 0
IsOutOfMemory (halt.NotEnabled at d) = ⊥
IsOutOfMemory (halt.OutOfMemory at d) = ⊤
