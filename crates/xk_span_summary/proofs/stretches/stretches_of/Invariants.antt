use Rattle.std.proofs.Common.{◌≡◌, ◌++◌, drop}
use Rattle.xk_span_summary.specs.Stretches.{stretches_from, stretches_of}
use Rattle.xk_span_summary.proofs.stretches.stretches_of.Given as goal

-- those so far, and those of the rest
abbrev pub invariant-loop-i : goal.invariant-loop-i
invariant-loop-i l = l.list.items ++ stretches_from l.current l.i (drop l.i l.path) ≡ stretches_of l.path
