use Rattle.std.proofs.Common.{◌≡◌, drop, map}
use Rattle.std.specs.List.{list_any}
use Rattle.xk_tree.specs.Tree.{method_value}
use Rattle.xk_hints.specs.Hints.{ends_late}
use Rattle.xk_hints.proofs.remarks.is_long.Given as goal

-- none does before what is left
abbrev pub invariant-loop-method : goal.invariant-loop-method
invariant-loop-method l =
    list_any ends_late (map method_value (drop l.method-index l.methods)) ≡ list_any ends_late (map method_value l.methods)
