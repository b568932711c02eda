use Rattle.std.proofs.Common.{◌≡◌, ◌++◌, drop, map}
use Rattle.xk_tree.specs.Tree.{method_value}
use Rattle.xk_hints.specs.Meetings.{all_meetings, meetings_here}
use Rattle.xk_hints.proofs.meetings.all_meetings.Given as goal

abbrev pub invariant-loop-method : goal.invariant-loop-method
invariant-loop-method l =
    meetings_here l.out.items ++ all_meetings (map method_value (drop l.method-index l.methods)) ≡ all_meetings (map method_value l.methods)
