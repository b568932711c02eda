use Rattle.std.proofs.Common.{◌≡◌, ◌++◌, string_bytes, take}
use Rattle.std.specs.List.{flat_map}
use Rattle.xk_why.specs.ModuleLines.{events_for}
use Rattle.xk_why.proofs.module_lines.put_events.Given as goal

-- the lines of those so far
abbrev pub invariant-loop-number : goal.invariant-loop-number
invariant-loop-number l =
    string_bytes l.text ≡ string_bytes l.fn.text ++ flat_map (events_for l.places l.steps) (take l.number-index l.numbers)
