use Rattle.std.proofs.Common.{◌≡◌, ◌++◌, drop, map}
use Rattle.std.specs.List.{flat_map}
use Rattle.xk_tree.specs.Tree.{method_value, shared_value}
use Rattle.xk_hints.specs.Hints.{method_remarks, remarks_here}
use Rattle.xk_hints.proofs.remarks.add_methods.Given as goal

abbrev pub invariant-loop-method : goal.invariant-loop-method
invariant-loop-method l =
    remarks_here l.out.items
    ++ flat_map (method_remarks (map shared_value l.shared) (map method_value l.methods)) (map method_value (drop l.method-index l.methods))
    ≡ remarks_here l.fn.out.items
    ++ flat_map (method_remarks (map shared_value l.shared) (map method_value l.methods)) (map method_value l.methods)
