use Rattle.std.proofs.Common.{◌≡◌, ◌++◌, drop, map}
use Rattle.xk_tree.specs.Tree.{param_value}
use Rattle.xk_emit.specs.Unit.{names_of_params}
use Rattle.xk_emit.proofs.units.param_names.Given as goal

-- the names so far and those of the parameters that are left are those of all
abbrev pub invariant-loop-param : goal.invariant-loop-param
invariant-loop-param l = map (λ x. x.now) l.names.items ++ names_of_params (map param_value (drop l.param-index l.params)) ≡ names_of_params (map param_value l.params)
