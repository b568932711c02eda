use Rattle.std.proofs.Common.{◌≡◌, ◌++◌, drop}
use Rattle.xk_tree.specs.Tree.{statements, words}
use Rattle.xk_hints.specs.SharedNumbers.{all_writes}
use Rattle.xk_hints.proofs.shared_numbers.+written.Given as goal

-- what was added so far and what the statements that are left write is what all write
abbrev pub invariant-add_all_writes-loop-s : goal.invariant-add_all_writes-loop-s
invariant-add_all_writes-loop-s l =
    words l.out.items ++ all_writes (statements (drop l.s-index l.ss)) ≡ words l.fn.out.items ++ all_writes (statements l.ss)
