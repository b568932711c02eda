use Rattle.std.proofs.Common.{◌≡◌, ◌++◌, drop}
use Rattle.xk_hints.specs.Accesses.{access_value, accesses}
use Rattle.xk_hints.specs.Meetings.{meetings_here, met}
use Rattle.xk_hints.proofs.meetings.add_met.Given as goal

-- none meets it before what is left
abbrev pub invariant-loop-other : goal.invariant-loop-other
invariant-loop-other l =
    meetings_here l.out.items ++ met (accesses (drop l.other-index l.beside)) (access_value l.here)
    ≡ meetings_here l.fn.out.items ++ met (accesses l.beside) (access_value l.here)
