use Rattle.std.proofs.Common.{◌≡◌, drop}
use Rattle.xk_hints.specs.Hints.{all_placed, remarks_here}
use Rattle.xk_hints.specs.Meetings.{meetings_here}
use Rattle.xk_hints.proofs.remarks.place_all.Given as goal

-- to place those that are left among what was placed is to place all
abbrev pub invariant-loop-meeting : goal.invariant-loop-meeting
invariant-loop-meeting l =
    all_placed (meetings_here (drop l.meeting-index l.meetings)) (remarks_here l.out.items)
    ≡ all_placed (meetings_here l.meetings) (remarks_here l.fn.out.items)
