use Rattle.std.proofs.Common.{◌≡◌, drop, map, None, option_map}
use Rattle.xk_tree.specs.Tree.{method_value}
use Rattle.xk_explain_names.specs.LentClocks.{last_method}
use Rattle.xk_explain_names.proofs.lent_clocks.last_method.Given as goal

-- of those that are left, behind the one found, the last is that of all
abbrev pub invariant-loop-method : goal.invariant-loop-method
invariant-loop-method l =
    last_method l.at (option_map (λ m. method_value m.now) l.found) (map method_value (drop l.method-index l.methods))
    ≡ last_method l.at None (map method_value l.methods)
