use Rattle.xk_scheduler.specs.Choosers.{enabled_in}
use Rattle.xk_workers.specs.Claims.{claims_in}
use Rattle.xk_workers.proofs.UnclaimedSearchLemmas.{IsSeeking, left_of}
use Rattle.xk_workers.proofs.lock_table.first_unclaimed.Given as goal

-- who was looked at is claimed
abbrev pub invariant-loop-next : goal.invariant-loop-next
invariant-loop-next l = IsSeeking (claims_in l.claims) (enabled_in l.run.core.module_run l.run.core.world) l.next

-- those who haven't been looked at
abbrev pub decreases-loop-next : goal.decreases-loop-next
decreases-loop-next l = left_of l.next (enabled_in l.run.core.module_run l.run.core.world)
