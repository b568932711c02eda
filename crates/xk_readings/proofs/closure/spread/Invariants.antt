use Rattle.std.proofs.Common.{◌≡◌, ℕ, ◌+◌, ◌<◌, length, None, slice_get, Some}
use Rattle.xk_readings.specs.declared.edge.Edge.{Edge}
use Rattle.xk_readings.specs.Closures.{IsSpread}
use Rattle.xk_readings.specs.Ways.{HasStanding, at, left}
use Rattle.xk_readings.proofs.closure.spread.Given as goal

-- the edges before this place lead to where one of the ways ends
abbrev pub invariant-loop-edge : goal.invariant-loop-edge
invariant-loop-edge l = record {
  spread : IsSpread l.graph (at l.fn.ways.all l.number).numbers l.fn.ways l.ways;
  since : l.ways.since ≡ l.fn.ways.since;
  left : length l.ways.all + left l.ways ≡ length l.fn.ways.all + left l.fn.ways;
  edges : (j : ℕ) (e : Edge) → j < l.edge-index → slice_get l.edge-items j ≡ Some e → e.printed ≡ None
      → HasStanding l.ways.all l.ways.since e.to;
}
