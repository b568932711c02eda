use Rattle.std.proofs.Common.{◌≡◌, ◌++◌, drop}
use Rattle.xk_tree.specs.Tree.{shared_value}
use Rattle.xk_hints.specs.Meetings.{first_in, meetings_here}
use Rattle.xk_hints.proofs.meetings.add_first_in.Given as goal

-- none is in the number before what is left
abbrev pub invariant-loop-meeting : goal.invariant-loop-meeting
invariant-loop-meeting l =
    meetings_here l.out.items ++ first_in (meetings_here (drop l.meeting-index l.found)) (shared_value l.number)
    ≡ meetings_here l.fn.out.items ++ first_in (meetings_here l.found) (shared_value l.number)
