use Rattle.std.proofs.Common.{◌≡◌, take}
use Rattle.xk_span_summary.specs.Waits.{rounds_waited}
use Rattle.xk_span_summary.proofs.waits.rounds_waited.Given as goal

-- those so far
abbrev pub invariant-loop-wait : goal.invariant-loop-wait
invariant-loop-wait l = l.rounds.items ≡ rounds_waited (take l.wait-index l.waits)
