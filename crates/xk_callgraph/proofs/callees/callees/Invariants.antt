use Rattle.std.proofs.Common.{◌≡◌, ◌++◌, drop, map}
use Rattle.xk_tree.specs.Tree.{method_value, words}
use Rattle.xk_callgraph.specs.Callees.{all_callees}
use Rattle.xk_callgraph.proofs.callees.callees.Given as goal

abbrev pub invariant-loop-method : goal.invariant-loop-method
invariant-loop-method l =
    map (λ names. words names.items) l.called.items ++ all_callees (map method_value (drop l.method-index l.methods))
    ≡ all_callees (map method_value l.methods)
