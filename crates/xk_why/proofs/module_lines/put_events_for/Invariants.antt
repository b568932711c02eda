use Rattle.std.proofs.Common.{◌≡◌, ◌++◌, string_bytes, take}
use Rattle.std.specs.List.{flat_map}
use Rattle.xk_why.specs.ModuleLines.{event_if}
use Rattle.xk_why.proofs.module_lines.put_events_for.Given as goal

-- the lines of those so far
abbrev pub invariant-loop-step : goal.invariant-loop-step
invariant-loop-step l =
    string_bytes l.text ≡ string_bytes l.fn.text ++ flat_map (event_if l.places l.number) (take l.step-index l.steps)
