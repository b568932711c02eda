use Rattle.std.proofs.Common.{◌≡◌, ◌++◌, drop, map}
use Rattle.std.specs.List.{flat_map}
use Rattle.xk_tree.specs.Tree.{param_value}
use Rattle.xk_explain_kinds.specs.Calls.{param_text}
use Rattle.xk_explain_kinds.proofs.calls.params_text.Given as goal

-- what was added, and what is still to be, are all parameters
abbrev pub invariant-loop-param : goal.invariant-loop-param
invariant-loop-param l =
    l.out.items ++ flat_map param_text (map param_value (drop l.param-index l.params)) ≡ flat_map param_text (map param_value l.params)
