use Rattle.std.proofs.Common.{◌≡◌, take, string_bytes}
use Rattle.std.specs.List.{flat_map}
use Rattle.xk_show_events.specs.Events.{event_line}
use Rattle.xk_show_events.proofs.events.event_lines.Given as goal

-- the lines of the steps so far are written
abbrev pub invariant-loop-step : goal.invariant-loop-step
invariant-loop-step l = string_bytes l.text ≡ flat_map (event_line l.places) (take l.step-index l.steps)
