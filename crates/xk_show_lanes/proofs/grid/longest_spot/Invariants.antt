use Rattle.std.proofs.Common.{◌≡◌, ◌<◌, ◌^◌, map, take}
use Rattle.xk_show_lanes.specs.Fields.{longest}
use Rattle.xk_show_lanes.specs.Lanes.{spot}
use Rattle.xk_show_lanes.proofs.grid.longest_spot.Given as goal

-- the longest so far
abbrev pub invariant-loop-step : goal.invariant-loop-step
invariant-loop-step l = (l.most ≡ longest (map (spot l.places) (take l.step-index l.steps))) × (l.most < 2 ^ 63)
