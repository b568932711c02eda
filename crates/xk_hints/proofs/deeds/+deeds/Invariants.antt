use Rattle.std.proofs.Common.{◌≡◌, drop}
use Rattle.xk_tree.specs.Tree.{statements}
use Rattle.xk_hints.specs.Deeds.{does, some_among}
use Rattle.xk_hints.proofs.deeds.+deeds.Given as goal

-- none does so before what is left
abbrev pub invariant-some_among-loop-s : goal.invariant-some_among-loop-s
invariant-some_among-loop-s l =
    some_among (does l.deed l.x) (statements (drop l.s-index l.ss)) ≡ some_among (does l.deed l.x) (statements l.ss)
