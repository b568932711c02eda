use Rattle.std.proofs.Common.{◌≡◌, ◌+◌, length}
use Rattle.xk_readings.specs.Paths.{AreWaysOf, counted, lists_below, paths_of}
use Rattle.xk_readings.proofs.counts.count_along.Given as goal

-- the paths of so many moves, and of fewer, are counted
abbrev pub invariant-loop : goal.invariant-loop
invariant-loop l = record {
  many : length l.ways.items ≡ length l.ends;
  ways : AreWaysOf (paths_of l.moves l.counter) l.ways.items;
  count : l.count ≡ counted (length (lists_below l.moves l.ends (l.counter + 1)));
}
