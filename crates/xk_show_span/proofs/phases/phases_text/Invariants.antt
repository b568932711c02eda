use Rattle.std.proofs.Common.{◌≡◌, ◌++◌, drop}
use Rattle.xk_show_span.specs.Phases.{phases_from, phases_text}
use Rattle.xk_show_span.proofs.phases.phases_text.Given as goal

-- the lines so far, with those of the rest
abbrev pub invariant-loop-i : goal.invariant-loop-i
invariant-loop-i l = l.out.items ++ phases_from l.places l.times l.i l.known (drop l.i l.deeds) ≡ phases_text l.places l.times l.deeds
