use Rattle.std.proofs.Common.{◌≡◌, drop}
use Rattle.xk_tree.specs.Tree.{expressions}
use Rattle.xk_explain_kinds.specs.Declarations.{last_of_arguments}
use Rattle.xk_explain_kinds.proofs.declaration.last_of_arguments.Given as goal

-- the arguments that are left, behind the last one so far, are all of them
abbrev pub invariant-loop-e : goal.invariant-loop-e
invariant-loop-e l = last_of_arguments l.last (expressions (drop l.e-index l.es)) ≡ last_of_arguments l.at (expressions l.es)
