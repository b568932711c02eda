use Rattle.std.proofs.Common.{◌≡◌, ◌++◌, drop, map}
use Rattle.std.specs.List.{flat_map}
use Rattle.xk_tree.specs.Tree.{method_value, param_value}
use Rattle.xk_hints.specs.Hints.{param_remarks, remarks_here}
use Rattle.xk_hints.proofs.remarks.add_params.Given as goal

abbrev pub invariant-loop-param : goal.invariant-loop-param
invariant-loop-param l =
    remarks_here l.out.items
    ++ flat_map (param_remarks (method_value l.method)) (map param_value (drop l.param-index l.method.params.items))
    ≡ remarks_here l.fn.out.items ++ flat_map (param_remarks (method_value l.method)) (map param_value l.method.params.items)
