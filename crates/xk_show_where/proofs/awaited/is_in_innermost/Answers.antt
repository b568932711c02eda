-- A governor has a smaller number, so it is there.
use Rattle.std.proofs.Common.{◌<◌, length, sym, arith}
use Rattle.xk_scheduler.proofs.FinishOwnerLemmas.{core_owned}
use Rattle.xk_show_where.proofs.AwaitedLemmas.{governor_before}
use Rattle.xk_show_where.proofs.awaited.is_in_innermost.Goals as goal

pub is_under-requires : goal.is_under-requires
is_under-requires c =
    let core = c.args.core.now in
    let owned = core_owned core.module_run core.world c.activities-there.ensures.core in
    let less = governor_before core.world owned c.args.act c.in-Some.governor (sym c.in-Some.ensures) in
    let inside : c.args.act < length core.world.activities = c.requires in
    omega (arith, less, inside)
