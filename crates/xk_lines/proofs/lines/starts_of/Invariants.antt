use Rattle.std.proofs.Common.{◌≡◌, ◌++◌, drop}
use Rattle.xk_lines.specs.Lines.{later_starts, line_starts}
use Rattle.xk_lines.proofs.lines.starts_of.Given as goal

-- those so far, and those that are still to come
abbrev pub invariant-loop-i : goal.invariant-loop-i
invariant-loop-i l = l.starts.items ++ later_starts l.i (drop l.i l.text) ≡ line_starts l.text
