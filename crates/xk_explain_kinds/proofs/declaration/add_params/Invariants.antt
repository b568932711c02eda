use Rattle.std.proofs.Common.{◌≡◌, ◌++◌, drop, map}
use Rattle.xk_tree.specs.Tree.{param_value}
use Rattle.xk_explain_kinds.specs.Declarations.{declared_here, param_declarations}
use Rattle.xk_explain_kinds.proofs.declaration.add_params.Given as goal

abbrev pub invariant-loop-param : goal.invariant-loop-param
invariant-loop-param l =
    declared_here l.found.items ++ param_declarations l.until (map param_value (drop l.param-index l.params))
    ≡ declared_here l.fn.found.items ++ param_declarations l.until (map param_value l.params)
