use Rattle.std.proofs.Common.{◌≡◌, drop}
use Rattle.xk_span.specs.Times.{latest_from, no_mark}
use Rattle.xk_span.proofs.marks.latest.Given as goal

-- the latest so far, and the rest
abbrev pub invariant-loop-mark : goal.invariant-loop-mark
invariant-loop-mark l = latest_from l.best (drop l.mark-index l.marks) ≡ latest_from no_mark l.marks
