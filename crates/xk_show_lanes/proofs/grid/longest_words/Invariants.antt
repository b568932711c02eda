use Rattle.std.proofs.Common.{◌≡◌, ◌<◌, ◌^◌, map, take}
use Rattle.xk_show_events.specs.Events.{event_words}
use Rattle.xk_show_lanes.specs.Fields.{longest}
use Rattle.xk_show_lanes.proofs.grid.longest_words.Given as goal

-- the longest so far
abbrev pub invariant-loop-step : goal.invariant-loop-step
invariant-loop-step l = (l.most ≡ longest (map event_words (take l.step-index l.steps))) × (l.most < 2 ^ 63)
