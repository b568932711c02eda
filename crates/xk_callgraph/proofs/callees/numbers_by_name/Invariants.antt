use Rattle.std.proofs.Common.{◌≡◌, ℕ, List, drop, map}
use Rattle.std.specs.Option.{option_or}
use Rattle.xk_tree.specs.Tree.{method_value}
use Rattle.xk_names.specs.Scope.{find}
use Rattle.xk_callgraph.specs.Recursion.{number_among}
use Rattle.xk_callgraph.proofs.callees.numbers_by_name.Given as goal

-- what the table has for a name, or the methods that are left
abbrev pub invariant-loop-i : goal.invariant-loop-i
invariant-loop-i l = (x : List ℕ) → option_or (find l.table x) (number_among l.i (map method_value (drop l.i l.methods)) x) ≡ number_among 0 (map method_value l.methods) x
