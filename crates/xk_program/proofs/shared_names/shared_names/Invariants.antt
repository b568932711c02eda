use Rattle.std.proofs.Common.{◌≡◌, map, take}
use Rattle.xk_tree.specs.Tree.{shared_value}
use Rattle.xk_names.specs.Captures.{shared_texts}
use Rattle.xk_program.proofs.shared_names.shared_names.Given as goal

-- the names so far
abbrev pub invariant-loop-number : goal.invariant-loop-number
invariant-loop-number l = map (λ x. x.now) l.names.items ≡ shared_texts (map shared_value (take l.number-index l.shared))
