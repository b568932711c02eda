use Rattle.std.proofs.Common.{◌≡◌, ◌++◌, drop, map}
use Rattle.xk_tree.specs.Tree.{param_value, expressions}
use Rattle.xk_names.specs.Uses.{given}
use Rattle.xk_names.specs.StatementParts.{arguments}
use Rattle.xk_names.proofs.arguments.arguments.Given as goal

abbrev pub invariant-loop-i : goal.invariant-loop-i
invariant-loop-i l =
    arguments l.given.items ++ given (map param_value (drop l.i l.params)) (expressions (drop l.i l.values))
    ≡ given (map param_value l.params) (expressions l.values)
