use Rattle.std.proofs.Common.{◌≡◌, ◌++◌, drop}
use Rattle.xk_show_path.specs.Rounds.{rounds_by, rounds_from}
use Rattle.xk_show_path.proofs.rounds.rounds_by.Given as goal

-- those so far, with the rest
abbrev pub invariant-loop-i : goal.invariant-loop-i
invariant-loop-i l = l.rounds.items ++ rounds_from l.times l.i (drop l.i l.deeds) ≡ rounds_by l.times l.deeds
