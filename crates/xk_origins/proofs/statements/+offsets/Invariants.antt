use Rattle.std.proofs.Common.{◌≡◌, ◌++◌, drop}
use Rattle.xk_tree.specs.Tree.{statements}
use Rattle.xk_origins.specs.Offsets.{offsets_all}
use Rattle.xk_origins.proofs.statements.+offsets.Given as goal

-- the offsets so far and those of the statements that are left are those of all
abbrev pub invariant-add_all_offsets-loop-s : goal.invariant-add_all_offsets-loop-s
invariant-add_all_offsets-loop-s l =
    l.found.items ++ offsets_all l.shared (statements (drop l.s-index l.ss)) ≡ l.fn.found.items ++ offsets_all l.shared (statements l.ss)
