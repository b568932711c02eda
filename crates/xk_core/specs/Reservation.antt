-- The room that a state has reserved for clocks, and for what its activities are registered on.
use Rattle.std.specs.Prelude.{◌≡◌, ℕ, ◌≤◌, List, length, Some, slice_get, slice_index_or}
use Rattle.xk_types.specs.Code.{ModuleValue}
use Rattle.xk_types.specs.World.{Activity}
use Rattle.xk_types.specs.Bound.{clocks_bound}
use Rattle.xk_law_schedules.specs.ClockRoom.{places_of}
use Rattle.xk_registrations.specs.Standings.{Rooms}

-- for as many clocks as a run may have, and with each activity for as many registrations as it may have
pub record AreReserved (m : ModuleValue) (acts : List Activity) (r : Rooms) : Type 0 where
  pub clocks : clocks_bound m ≤ r.clocks
  pub width : length r.places ≡ length acts
  pub places : (a : ℕ) (act : Activity) → slice_get acts a ≡ Some act → places_of m act ≤ slice_index_or r.places a 0
