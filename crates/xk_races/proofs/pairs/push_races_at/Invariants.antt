use Rattle.std.proofs.Common.{◌≡◌, drop}
use Rattle.xk_races.specs.Races.{with_races_of}
use Rattle.xk_races.specs.Accesses.{sights_at}
use Rattle.xk_races.proofs.pairs.push_races_at.Given as goal

-- the rest makes of the list what all make of the first one
abbrev pub invariant-loop-position : goal.invariant-loop-position
invariant-loop-position l =
    with_races_of l.y (sights_at l.earlier (drop l.position-index l.positions)) l.list ≡ with_races_of l.y (sights_at l.earlier l.positions) l.fn.list
