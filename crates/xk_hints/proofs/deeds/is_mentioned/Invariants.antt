use Rattle.std.proofs.Common.{◌≡◌, drop}
use Rattle.std.specs.List.{list_any}
use Rattle.xk_tree.specs.Tree.{expressions}
use Rattle.xk_hints.specs.Deeds.{mentions}
use Rattle.xk_hints.proofs.deeds.is_mentioned.Given as goal

-- it stands in none before what is left
abbrev pub invariant-loop-e : goal.invariant-loop-e
invariant-loop-e l = list_any (mentions l.x) (expressions (drop l.e-index l.es)) ≡ list_any (mentions l.x) (expressions l.es)
