use Rattle.std.proofs.Common.{◌≡◌, drop, map}
use Rattle.xk_tree.specs.Tree.{words}
use Rattle.xk_callgraph.specs.Callees.{main_in}
use Rattle.xk_callgraph.proofs.recursion.call_of_main.Given as goal

abbrev pub invariant-loop-names : goal.invariant-loop-names
invariant-loop-names l = main_in (map (λ names. words names.items) (drop l.names-index l.called)) ≡ main_in (map (λ names. words names.items) l.called)
