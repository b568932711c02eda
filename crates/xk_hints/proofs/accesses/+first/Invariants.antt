use Rattle.std.proofs.Common.{◌≡◌, ◌++◌, drop}
use Rattle.xk_tree.specs.Tree.{statements}
use Rattle.xk_hints.specs.Accesses.{accesses, all_first_accesses}
use Rattle.xk_hints.proofs.accesses.+first.Given as goal

-- what was added so far and what is done first in the statements that are left is what is done first in all
abbrev pub invariant-add_all_first_accesses-loop-s : goal.invariant-add_all_first_accesses-loop-s
invariant-add_all_first_accesses-loop-s l =
    accesses l.out.items ++ all_first_accesses (statements (drop l.s-index l.ss))
    ≡ accesses l.fn.out.items ++ all_first_accesses (statements l.ss)
