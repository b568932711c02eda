use Rattle.std.proofs.Common.{◌≡◌, ◌++◌, drop, map}
use Rattle.xk_tree.specs.Tree.{shared_value}
use Rattle.xk_explain_kinds.specs.Declarations.{declared_here, shared_declarations}
use Rattle.xk_explain_kinds.proofs.declaration.add_shared.Given as goal

abbrev pub invariant-loop-number : goal.invariant-loop-number
invariant-loop-number l =
    declared_here l.found.items ++ shared_declarations (map shared_value (drop l.number-index l.shared))
    ≡ declared_here l.fn.found.items ++ shared_declarations (map shared_value l.shared)
