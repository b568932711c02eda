use Rattle.std.proofs.Common.{◌≡◌, ◌++◌, drop}
use Rattle.xk_tree.specs.Tree.{statements, words}
use Rattle.xk_hints.specs.SharedNumbers.{left_by_all}
use Rattle.xk_hints.proofs.shared_numbers.+left.Given as goal

-- what was added so far and what is left by the other statements is what is left by all
abbrev pub invariant-add_all_left-loop-s : goal.invariant-add_all_left-loop-s
invariant-add_all_left-loop-s l =
    words l.out.items ++ left_by_all (statements (drop l.s-index l.ss)) ≡ words l.fn.out.items ++ left_by_all (statements l.ss)
