use Rattle.std.proofs.Common.{◌≡◌, ◌≤◌, ◌++◌, length}
use Rattle.std.specs.Prelude.{reverse}
use Rattle.xk_readings.specs.Stands.{standings}
use Rattle.xk_readings.specs.Ways.{at}
use Rattle.xk_readings.proofs.ways.Ways.reading.Given as goal

-- what is read to this way, and behind it
abbrev pub invariant-loop-last : goal.invariant-loop-last
invariant-loop-last l = record {
  within : l.last ≤ length l.self-inside.stands.items;
  acts : (at (standings l.self-inside.stands.items) l.last).acts ++ reverse l.acts.items ≡
      (at (standings l.self-inside.stands.items) l.number).acts;
  numbers : (at (standings l.self-inside.stands.items) l.last).numbers ++ reverse l.numbers.items ≡
      (at (standings l.self-inside.stands.items) l.number).numbers;
}

abbrev pub decreases-loop-last : goal.decreases-loop-last
decreases-loop-last l = l.last
