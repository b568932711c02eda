use Rattle.std.proofs.Common.{◌≡◌, ◌++◌, string_bytes}
use Rattle.xk_show_events.specs.Worlds.{each_below}
use Rattle.xk_why.specs.Lines.{line_if}
use Rattle.xk_why.proofs.lines.put_line_for.Given as goal

-- the lines of those so far
abbrev pub invariant-loop-i : goal.invariant-loop-i
invariant-loop-i l =
    string_bytes l.text ≡ string_bytes l.fn.text ++ each_below (line_if l.places l.names l.steps l.number) l.i
