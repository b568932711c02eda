use Rattle.std.proofs.Common.{◌≡◌, ◌++◌, drop, map}
use Rattle.xk_tree.specs.Tree.{param_value}
use Rattle.xk_emit.specs.Unit.{kinds_of_params}
use Rattle.xk_emit.proofs.units.param_kinds.Given as goal

-- the kinds so far and those of the parameters that are left are those of all
abbrev pub invariant-loop-param : goal.invariant-loop-param
invariant-loop-param l = l.kinds.items ++ kinds_of_params (map param_value (drop l.param-index l.params)) ≡ kinds_of_params (map param_value l.params)
