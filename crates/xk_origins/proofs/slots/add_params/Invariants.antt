use Rattle.std.proofs.Common.{◌≡◌, ◌++◌, drop, map}
use Rattle.xk_tree.specs.Tree.{param_value}
use Rattle.xk_emit.specs.Unit.{names_of_params}
use Rattle.xk_origins.proofs.slots.add_params.Given as goal

-- the names so far and those that are left are those of all
abbrev pub invariant-loop-param : goal.invariant-loop-param
invariant-loop-param l =
    map (λ y. y.now) l.found.items ++ names_of_params (map param_value (drop l.param-index l.params))
    ≡ map (λ y. y.now) l.fn.found.items ++ names_of_params (map param_value l.params)
