use Rattle.std.proofs.Common.{◌≡◌, take}
use Rattle.std.specs.List.{flat_map}
use Rattle.xk_races.specs.Accesses.{new_members}
use Rattle.xk_races.proofs.accesses.new_positions.Given as goal

-- those of the groups so far
abbrev pub invariant-loop-group : goal.invariant-loop-group
invariant-loop-group l = l.positions.items ≡ flat_map (new_members l.list l.y) (take l.group-index l.groups)
