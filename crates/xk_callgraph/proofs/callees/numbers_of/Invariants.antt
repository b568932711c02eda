use Rattle.std.proofs.Common.{◌≡◌, ◌++◌, drop, map}
use Rattle.std.specs.Prelude.{unwrap_or}
use Rattle.xk_tree.specs.Tree.{words}
use Rattle.xk_names.specs.Scope.{find}
use Rattle.xk_callgraph.proofs.callees.numbers_of.Given as goal

abbrev pub invariant-loop-name : goal.invariant-loop-name
invariant-loop-name l =
    l.numbers.items ++ map (λ g. unwrap_or (find l.table g.text) l.other) (words (drop l.name-index l.names))
    ≡ map (λ g. unwrap_or (find l.table g.text) l.other) (words l.names)
