use Rattle.std.proofs.Common.{◌≡◌, ◌++◌, drop}
use Rattle.xk_races.specs.Knowledge.{sights_from, sights_of}
use Rattle.xk_races.proofs.sights.sights_of.Given as goal

-- those so far, and what the rest makes of what is known, are all
abbrev pub invariant-loop-i : goal.invariant-loop-i
invariant-loop-i l = l.list.items ++ sights_from l.known l.i (drop l.i l.deeds) ≡ sights_of l.deeds
