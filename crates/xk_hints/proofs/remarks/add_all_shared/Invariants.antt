use Rattle.std.proofs.Common.{◌≡◌, ◌++◌, drop, map}
use Rattle.std.specs.List.{flat_map}
use Rattle.xk_tree.specs.Tree.{method_value, shared_value}
use Rattle.xk_hints.specs.Hints.{remarks_here, shared_remarks}
use Rattle.xk_hints.proofs.remarks.add_all_shared.Given as goal

abbrev pub invariant-loop-number : goal.invariant-loop-number
invariant-loop-number l =
    remarks_here l.out.items ++ flat_map (shared_remarks (map method_value l.methods)) (map shared_value (drop l.number-index l.shared))
    ≡ remarks_here l.fn.out.items ++ flat_map (shared_remarks (map method_value l.methods)) (map shared_value l.shared)
