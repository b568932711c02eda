use Rattle.std.proofs.Common.{◌≡◌, drop}
use Rattle.xk_tree.specs.Tree.{words}
use Rattle.xk_callgraph.specs.Callees.{main_among}
use Rattle.xk_callgraph.proofs.recursion.main_among.Given as goal

abbrev pub invariant-loop-name : goal.invariant-loop-name
invariant-loop-name l = main_among (words (drop l.name-index l.names)) ≡ main_among (words l.names)
