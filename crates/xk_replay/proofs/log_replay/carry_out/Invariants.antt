use Rattle.std.proofs.Common.{◌≡◌, take}
use Rattle.xk_scheduler.specs.LoggedRuns.{IsRunOf}
use Rattle.xk_replay.proofs.log_replay.carry_out.Given as goal

-- the entries before this one were carried out, and main was given the numbers
abbrev pub invariant-loop-i : goal.invariant-loop-i
invariant-loop-i l = IsRunOf l.verified (take l.i l.log) l.printed.items l.core × (l.core.world.arguments ≡ l.arguments)
