use Rattle.std.proofs.Common.{◌≡◌, ◌++◌, drop, map}
use Rattle.std.specs.List.{flat_map}
use Rattle.xk_tree.specs.Tree.{shared_value}
use Rattle.xk_hints.specs.Meetings.{first_in, meetings_here}
use Rattle.xk_hints.proofs.meetings.first_meetings.Given as goal

abbrev pub invariant-loop-number : goal.invariant-loop-number
invariant-loop-number l =
    meetings_here l.out.items ++ flat_map (first_in (meetings_here l.found)) (map shared_value (drop l.number-index l.shared))
    ≡ flat_map (first_in (meetings_here l.found)) (map shared_value l.shared)
