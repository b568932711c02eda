use Rattle.std.proofs.Common.{◌≡◌, ◌++◌, drop, None}
use Rattle.xk_explain.specs.SourceExplanations.{stops}
use Rattle.xk_explain.proofs.walks.push_stops.Given as goal

-- what was added, and what is still to be, is all of the walk
abbrev pub invariant-loop-i : goal.invariant-loop-i
invariant-loop-i l = l.out.items ++ stops l.source l.unit l.told (drop l.i l.walk) ≡ l.fn.out.items ++ stops l.source l.unit None l.walk
