use Rattle.std.proofs.Common.{◌≡◌, ◌-◌, ◌≤◌, ◌++◌, length, drop}
use Rattle.std.specs.List.{prefix_len}
use Rattle.xk_log.specs.LogText.{isnt, line_feed}
use Rattle.xk_log.specs.Verdicts.{before}
use Rattle.xk_log.specs.Reading.{place, IsReady}
use Rattle.xk_log.proofs.progress.Progress.take_lines.Given as goal

-- the lines so far were taken, and the next one ends where it is said
abbrev pub invariant-loop-from : goal.invariant-loop-from
invariant-loop-from l = record {
  ready : IsReady l.self;
  within : l.from ≤ length l.text;
  taken : before (place l.self) ++ drop l.from l.text ≡ before (place l.fn.self) ++ l.text;
  found : l.length ≡ prefix_len (isnt line_feed) (drop l.from l.text);
}

abbrev pub decreases-loop-from : goal.decreases-loop-from
decreases-loop-from l = length l.text - l.from
