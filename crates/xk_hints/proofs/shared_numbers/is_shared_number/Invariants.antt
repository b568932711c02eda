use Rattle.std.proofs.Common.{◌≡◌, drop, map}
use Rattle.xk_tree.specs.Tree.{shared_value}
use Rattle.xk_hints.specs.SharedNumbers.{is_shared_number}
use Rattle.xk_hints.proofs.shared_numbers.is_shared_number.Given as goal

-- none before what is left has the name
abbrev pub invariant-loop-number : goal.invariant-loop-number
invariant-loop-number l =
    is_shared_number (map shared_value (drop l.number-index l.shared)) l.x ≡ is_shared_number (map shared_value l.shared) l.x
