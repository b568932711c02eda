use Rattle.std.proofs.Common.{◌≡◌, [], ◌++◌, drop}
use Rattle.xk_tree.specs.Tree.{statements}
use Rattle.xk_hints.specs.Accesses.{accesses}
use Rattle.xk_hints.specs.Meetings.{meetings_among, meetings_here}
use Rattle.xk_hints.proofs.meetings.+meetings.Given as goal

-- what was added so far and the meetings in the statements that are left are those in all
abbrev pub invariant-add_all_meetings-loop-s : goal.invariant-add_all_meetings-loop-s
invariant-add_all_meetings-loop-s l =
    meetings_here l.out.items
    ++ meetings_among (accesses l.here.items) (accesses l.started.items) (statements (drop l.s-index l.ss))
    ≡ meetings_here l.fn.out.items ++ meetings_among (accesses l.beside) [] (statements l.ss)
