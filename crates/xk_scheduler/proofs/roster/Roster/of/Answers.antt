use Rattle.std.proofs.Common.{ap, arith}
use Rattle.xk_types.specs.Bound.{activities_bound}
use Rattle.xk_scheduler.proofs.roster.Roster.of.Goals as goal

pub with_room-requires : goal.with_room-requires
with_room-requires c = omega (arith, c.activities.ensures, ap activities_bound c.module-module.ensures.same, c.activities-there.ensures.core.accepted.bounds.activities)
