use Rattle.std.proofs.Common.{ℕ, ◌<◌}
use Rattle.xk_closed_sets.specs.ClosedSets.{IsFitting, is_in}
use Rattle.xk_closed_sets.specs.Places.{phase_in, rest_in}
use Rattle.xk_closed_sets.proofs.closedness.is_closed.Given as goal

-- so far all fit
abbrev pub invariant-loop-a : goal.invariant-loop-a
invariant-loop-a l = (b : ℕ) → b < l.a
    → IsFitting l.core.module_run l.core.world (is_in l.members) (rest_in l.rows) (phase_in l.rows) l.others b
