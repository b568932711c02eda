use Rattle.std.proofs.Common.{◌≡◌, ◌++◌, drop, map, length}
use Rattle.std.specs.Prelude.{unwrap_or}
use Rattle.xk_callgraph.specs.CallGraph.{adjacency}
use Rattle.xk_tree.specs.Tree.{words}
use Rattle.xk_names.specs.Scope.{find}
use Rattle.xk_callgraph.proofs.callees.called_numbers.Given as goal

abbrev pub invariant-loop-names : goal.invariant-loop-names
invariant-loop-names l =
    adjacency l.numbers.items ++ map (λ gs. map (λ g. unwrap_or (find l.table g.text) (length l.called)) gs) (map (λ names. words names.items) (drop l.names-index l.called))
    ≡ map (λ gs. map (λ g. unwrap_or (find l.table g.text) (length l.called)) gs) (map (λ names. words names.items) l.called)
