use Rattle.std.proofs.Common.{◌≤◌, length}
use Rattle.xk_readings.specs.Walks.{IsWalk, weight}
use Rattle.xk_readings.proofs.walk.go_through.Given as goal

-- what isn't listed yet is read behind one of the groups
abbrev pub invariant-loop-group : goal.invariant-loop-group
invariant-loop-group l = record {
  walk : IsWalk l.graph l.walk.ways l.walk.groups.items l.walk.list.items;
  most : length l.walk.list.items ≤ l.limit;
}

abbrev pub decreases-loop-group : goal.decreases-loop-group
decreases-loop-group l = weight l.limit l.longest l.walk.ways.all l.walk.groups.items l.walk.list.items
