-- The set of those who can take a step, from step to step. This project's own.
use Rattle.std.specs.Prelude.{ℕ, ◌-◌, List, length, Option, Some, None}
use Rattle.xk_types.specs.declared.world.Event.{Event}
use Rattle.xk_types.specs.declared.world.Event.TheVariants as event
use Rattle.xk_types.specs.World.{World}
use Rattle.xk_types.specs.Schedule.{is_enabled}
use Rattle.xk_collections.specs.NumberSets.{with_member}
use Rattle.xk_core.specs.Core.{CoreValue, governor}

-- Who but the activity that took it may be able to step after a step, whatever clocks do, and wasn't before: one that it started; and
-- where it ended its activity, the one that opened the finish which governs it.
abbrev pub other_to_list : World → ℕ → Event → Option ℕ
other_to_list w a event.Spawned = Some (length w.activities - 1)
other_to_list w a event.Ended = governor w a
other_to_list w a _ = None

-- a rising list, with activity a in it if it can take a step, and without it else
abbrev pub with_or_without : CoreValue → ℕ → List ℕ → List ℕ
with_or_without c a list = with_member a (is_enabled c.module_run c.world a) list
