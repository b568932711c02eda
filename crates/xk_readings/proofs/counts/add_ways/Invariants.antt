use Rattle.std.proofs.Common.{◌≡◌, List, length, take}
use Rattle.xk_readings.specs.Paths.{AreWaysOf, Path, all_extended}
use Rattle.xk_readings.proofs.counts.add_ways.Given as goal

-- the moves before this place were gone
abbrev pub invariant-loop-e : goal.invariant-loop-e
invariant-loop-e l = record {
  many : length l.next ≡ length l.fn.next;
  ways : (paths : List Path) → AreWaysOf paths l.now → AreWaysOf (all_extended (take l.e-index l.moves) paths) l.next;
}
