use Rattle.std.proofs.Common.{◌≡◌, ◌≤◌, length, take}
use Rattle.std.specs.Vec.{vec_len, vec_capacity}
use Rattle.xk_scheduler.specs.Schedules.{events_seen, LeadsPart}
use Rattle.xk_scheduler.proofs.schedule.run_schedule.Given as goal

-- the schedule was carried out so far, what is seen of it is listed, and there is room for the rest
abbrev pub invariant-loop-at : goal.invariant-loop-at
invariant-loop-at l =
    (l.core.module_run ≡ l.fn.start.module_run)
    × LeadsPart l.fn.start.module_run l.schedule l.fn.start.world l.at l.core.world
    × (l.seen.items ≡ events_seen l.fn.start.module_run (take l.at l.schedule) l.fn.start.world)
    × (length l.schedule ≤ vec_capacity l.seen)
    × (vec_len l.seen ≤ l.at)
