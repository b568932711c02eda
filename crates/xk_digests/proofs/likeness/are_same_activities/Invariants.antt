use Rattle.std.proofs.Common.{◌≡◌, ℕ, ◌<◌}
use Rattle.xk_activity.specs.Activities.{act_at}
use Rattle.xk_liveness.specs.Liveness.{live_activity}
use Rattle.xk_live_slots.specs.LiveSlots.{live_of}
use Rattle.xk_digests.proofs.likeness.are_same_activities.Given as goal

-- so far all are the same
abbrev pub invariant-loop-a : goal.invariant-loop-a
invariant-loop-a l = (b : ℕ) → b < l.a
    → live_activity (live_of l.live) (act_at l.core.world.activities b)
    ≡ live_activity (live_of l.live) (act_at l.other.world.activities b)
