use Rattle.std.proofs.Common.{◌≡◌, ◌++◌, drop, map}
use Rattle.xk_tree.specs.Tree.{method_value}
use Rattle.xk_explain_kinds.specs.Declarations.{declared_here, methods_declarations}
use Rattle.xk_explain_kinds.proofs.declaration.add_methods.Given as goal

abbrev pub invariant-loop-method : goal.invariant-loop-method
invariant-loop-method l =
    declared_here l.found.items ++ methods_declarations (map method_value (drop l.method-index l.methods))
    ≡ declared_here l.fn.found.items ++ methods_declarations (map method_value l.methods)
