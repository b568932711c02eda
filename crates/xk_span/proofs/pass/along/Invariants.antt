use Rattle.std.proofs.Common.{◌≡◌, ◌++◌, drop}
use Rattle.xk_span.specs.Steps.{steps_weigh}
use Rattle.xk_span.specs.Times.{known_from, links_from, links_of, nothing_known, times_from, times_of}
use Rattle.xk_span.proofs.pass.along.Given as goal

-- those so far, and what the rest makes of what is known, are all
abbrev pub invariant-loop-i : goal.invariant-loop-i
invariant-loop-i l =
    (l.links.items ++ links_from (steps_weigh l.deeds) l.i (drop l.i l.deeds) l.known ≡ links_of (steps_weigh l.deeds) l.deeds)
    × (l.times.items ++ times_from (steps_weigh l.deeds) l.i (drop l.i l.deeds) l.known ≡ times_of (steps_weigh l.deeds) l.deeds)
    × (known_from (steps_weigh l.deeds) l.i (drop l.i l.deeds) l.known ≡ known_from (steps_weigh l.deeds) 0 l.deeds nothing_known)
