use Rattle.std.proofs.Common.{◌≡◌, ◌≤◌}
use Rattle.xk_ask.specs.Asking.{to_come}
use Rattle.xk_ask.proofs.LineLemmas.{IsPassing, IsReading}
use Rattle.xk_ask.proofs.answers.next_answer.Given as goal

-- so much of the line was read, and no read failed
abbrev pub invariant-loop-byte : goal.invariant-loop-byte
invariant-loop-byte g l = record {
  reading : IsReading (to_come l.fn.left (g.R.Source.remaining l.fn.source)) (to_come l.left (g.R.Source.remaining l.source)) l.line;
  passing : IsPassing l.fn.left (g.R.Source.remaining l.fn.source) l.left (g.R.Source.remaining l.source);
  fewer : l.left ≤ l.fn.left;
  no_fault : g.R.Source.fault_count l.source ≡ g.R.Source.fault_count l.fn.source;
}

-- bytes that may still be read
abbrev pub decreases-loop-byte : goal.decreases-loop-byte
decreases-loop-byte g l = l.left
