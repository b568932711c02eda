use Rattle.std.proofs.Common.{◌≡◌, ℕ, ◌+◌, ◌-◌, ◌<◌, ◌≤◌, length}
use Rattle.xk_readings.specs.Closures.{IsClosed, IsSpread}
use Rattle.xk_readings.specs.Ways.{at, left}
use Rattle.xk_readings.proofs.closure.close.Given as goal

-- the edges that go out from where the ways before this one end were followed
abbrev pub invariant-loop-number : goal.invariant-loop-number
invariant-loop-number l = record {
  spread : IsSpread l.graph (at l.fn.ways.all l.first).numbers l.fn.ways l.ways;
  since : l.ways.since ≡ l.first;
  behind : l.first ≤ l.number;
  within : l.number ≤ length l.ways.all;
  closed : (k : ℕ) → l.first ≤ k → k < l.number → IsClosed l.graph l.ways.all l.first (at l.ways.all k);
}

abbrev pub decreases-loop-number : goal.decreases-loop-number
decreases-loop-number l = left l.ways + (length l.ways.all - l.number)
