use Rattle.std.proofs.Common.{◌≡◌, ◌++◌, drop}
use Rattle.xk_tree.specs.Tree.{statements, words}
use Rattle.xk_callgraph.specs.Callees.{callees_all}
use Rattle.xk_callgraph.proofs.callees.+callees.Given as goal

-- what was added so far and the calls of the statements that are left are those of all
abbrev pub invariant-collect_all-loop-s : goal.invariant-collect_all-loop-s
invariant-collect_all-loop-s l = words l.names.items ++ callees_all (statements (drop l.s-index l.ss)) ≡ words l.fn.names.items ++ callees_all (statements l.ss)
