use Rattle.std.proofs.Common.{◌≡◌}
use Rattle.xk_readings.proofs.ways.Ways.look_from.Given as goal

abbrev pub invariant-loop-k : goal.invariant-loop-k
invariant-loop-k l = record {
  all : l.self.all ≡ l.fn.self.all;
  since : l.self.since ≡ l.number;
  room : l.self.here.room ≡ l.fn.self.here.room;
}
