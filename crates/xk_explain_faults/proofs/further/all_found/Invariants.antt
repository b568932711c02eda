use Rattle.std.proofs.Common.{◌≡◌, ◌++◌, map, drop}
use Rattle.xk_tree.specs.Program.{tree_value}
use Rattle.xk_explain_faults.specs.Faults.{found}
use Rattle.xk_explain_faults.proofs.further.all_found.Given as goal

-- those so far and those of what is left are those of all
abbrev pub invariant-loop-fault : goal.invariant-loop-fault
invariant-loop-fault l =
    l.findings.items ++ map (found (tree_value l.tree) l.text) (drop l.fault-index l.faults)
    ≡ map (found (tree_value l.tree) l.text) l.faults
