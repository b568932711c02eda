use Rattle.std.proofs.Common.{◌≡◌, ◌+◌, ◌++◌, drop, string_bytes}
use Rattle.xk_outcome_lists.specs.Text.{outcome_lines}
use Rattle.xk_outcome_lists.proofs.text.outcomes_text.Given as goal

-- the lines so far, and those of the rest behind them, are all lines
abbrev pub invariant-loop-i : goal.invariant-loop-i
invariant-loop-i l = string_bytes l.text ++ outcome_lines (l.i + 1) (drop l.i l.list) ≡ outcome_lines 1 l.list
