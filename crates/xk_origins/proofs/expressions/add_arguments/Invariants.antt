use Rattle.std.proofs.Common.{◌≡◌, ◌++◌, drop}
use Rattle.xk_tree.specs.Tree.{expressions}
use Rattle.xk_origins.specs.Origin.{brings_all}
use Rattle.xk_origins.proofs.expressions.add_arguments.Given as goal

-- the offsets so far and those of the arguments that are left are those of all
abbrev pub invariant-loop-e : goal.invariant-loop-e
invariant-loop-e l =
    l.found.items ++ brings_all l.at (expressions (drop l.e-index l.es)) ≡ l.fn.found.items ++ brings_all l.at (expressions l.es)
