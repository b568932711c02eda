use Rattle.std.proofs.Common.{◌≡◌, take, drop}
use Rattle.xk_races.specs.Races.{races_from, races_in}
use Rattle.xk_races.specs.Accesses.{AreAllCovered}
use Rattle.xk_races.proofs.pairs.races_in.Given as goal

-- the rest makes of the list all races, and each access so far has one that stands for it
abbrev pub invariant-loop-i : goal.invariant-loop-i
invariant-loop-i l = (races_from (take l.i l.sights) (drop l.i l.sights) l.list ≡ races_in l.sights) × AreAllCovered (take l.i l.sights) l.cells.items
