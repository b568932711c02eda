use Rattle.std.proofs.Common.{◌≡◌, drop}
use Rattle.xk_span_summary.specs.Waits.{place_from, place_in}
use Rattle.xk_span_summary.proofs.waits.place_in.Given as goal

-- it is none so far
abbrev pub invariant-loop-k : goal.invariant-loop-k
invariant-loop-k l = place_from l.step l.k (drop l.k l.waits) ≡ place_in l.step l.waits
