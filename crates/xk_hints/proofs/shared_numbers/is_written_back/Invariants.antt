use Rattle.std.proofs.Common.{◌≡◌, drop}
use Rattle.xk_tree.specs.Tree.{statements}
use Rattle.xk_hints.specs.SharedNumbers.{is_written_back}
use Rattle.xk_hints.proofs.shared_numbers.is_written_back.Given as goal

-- none does so before what is left
abbrev pub invariant-loop-s : goal.invariant-loop-s
invariant-loop-s l =
    is_written_back l.x l.t (statements (drop l.s-index l.ss)) ≡ is_written_back l.x l.t (statements l.ss)
