use Rattle.std.proofs.Common.{◌≡◌, drop, map}
use Rattle.xk_tree.specs.Tree.{method_value}
use Rattle.xk_explain_kinds.specs.Calls.{method_named}
use Rattle.xk_explain_kinds.proofs.calls.method_named.Given as goal

-- none so far has the name
abbrev pub invariant-loop-method : goal.invariant-loop-method
invariant-loop-method l =
    method_named l.name (map method_value (drop l.method-index l.methods)) ≡ method_named l.name (map method_value l.methods)
