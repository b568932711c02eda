use Rattle.std.proofs.Common.{◌≡◌, ◌++◌, take, string_bytes}
use Rattle.xk_replay.proofs.ChartLineLemmas.{lines_of}
use Rattle.xk_replay.proofs.clock_chart.put_lines.Given as goal

-- the lines of the clocks so far are written
abbrev pub invariant-loop-clock : goal.invariant-loop-clock
invariant-loop-clock l = string_bytes l.text ≡ string_bytes l.fn.text ++ lines_of l.core.world (take l.clock-index l.clocks)
