use Rattle.std.proofs.Common.{◌≡◌, List}
use Rattle.xk_readings.specs.Paths.{AreWaysOf, Path, counted}
use Rattle.xk_readings.proofs.CountLemmas.{over_below}
use Rattle.xk_readings.proofs.counts.over.Given as goal

-- those that end at a node before this one are counted
abbrev pub invariant-loop-node : goal.invariant-loop-node
invariant-loop-node l = (paths : List Path) → AreWaysOf paths l.now → l.count ≡ counted (over_below l.ends l.node paths)
