use Rattle.std.proofs.Common.{◌≡◌, drop, map}
use Rattle.xk_tree.specs.Tree.{method_value}
use Rattle.xk_hints.specs.Deeds.{does, some_of_methods}
use Rattle.xk_hints.proofs.deeds.some_of_methods.Given as goal

-- none does so before what is left
abbrev pub invariant-loop-method : goal.invariant-loop-method
invariant-loop-method l =
    some_of_methods (does l.deed l.x) (map method_value (drop l.method-index l.methods))
    ≡ some_of_methods (does l.deed l.x) (map method_value l.methods)
