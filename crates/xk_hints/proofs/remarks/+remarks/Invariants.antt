use Rattle.std.proofs.Common.{◌≡◌, ◌++◌, drop, map}
use Rattle.xk_tree.specs.Tree.{shared_value, statements, words}
use Rattle.xk_hints.specs.Hints.{place_value, remarks_among, remarks_here}
use Rattle.xk_hints.proofs.remarks.+remarks.Given as goal

-- what was added so far and what is told of the statements that are left is what is told of all
abbrev pub invariant-add_all_remarks-loop-i : goal.invariant-add_all_remarks-loop-i
invariant-add_all_remarks-loop-i l =
    remarks_here l.out.items
    ++ remarks_among (place_value l.place) (map shared_value l.shared) (words l.here.items) (statements (drop l.i l.ss))
    ≡ remarks_here l.fn.out.items
    ++ remarks_among (place_value l.fn.place) (map shared_value l.shared) (words l.left) (statements l.ss)
