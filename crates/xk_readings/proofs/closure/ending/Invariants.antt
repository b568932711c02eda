use Rattle.std.proofs.Common.{◌≡◌, ℕ, ◌<◌, ◌≤◌, false, slice_get, Some}
use Rattle.xk_readings.specs.Ways.{at}
use Rattle.xk_readings.proofs.closure.ending.Given as goal

-- none before this one ends where a reading may end
abbrev pub invariant-loop-number : goal.invariant-loop-number
invariant-loop-number l = (k : ℕ) → l.first ≤ k → k < l.number → slice_get l.graph.ends (at l.ways.all k).node ≡ Some false
