use Rattle.std.proofs.Common.{◌≡◌, ◌-◌, ◌≤◌, ◌++◌, length, take}
use Rattle.std.specs.Io.KnownBytes.{Consumes}
use Rattle.xk_log.specs.Verdicts.{before, IsOneLine, longest_line}
use Rattle.xk_log.specs.Reading.{place, IsReady, IsNoneBehind}
use Rattle.xk_log.proofs.reading.read_lines.Given as goal

-- the lines so far were taken, what is left stands at the front of the piece, and no read failed
abbrev pub invariant-loop-progress : goal.invariant-loop-progress
invariant-loop-progress g l = record {
  ready : IsReady l.progress;
  short : l.held ≤ longest_line;
  one_line : IsOneLine (take l.held l.piece);
  none_behind : IsNoneBehind (place l.progress) l.held;
  consumed : Consumes (g.R.Source.remaining l.fn.source) (g.R.Source.remaining l.source) (before (place l.progress) ++ take l.held l.piece);
  no_fault : g.R.Source.fault_count l.source ≡ g.R.Source.fault_count l.fn.source;
}

-- how many bytes a log has at most, and some more
abbrev pub decreases-loop-progress : goal.decreases-loop-progress
decreases-loop-progress g l = 22_000_000_100 - length (before (place l.progress) ++ take l.held l.piece)
