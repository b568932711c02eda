use Rattle.std.proofs.Common.{◌≡◌, drop}
use Rattle.xk_tree.specs.Tree.{statements}
use Rattle.xk_hints.specs.Accesses.{some_may_wait}
use Rattle.xk_hints.proofs.accesses.+waits.Given as goal

-- it waits at none before what is left
abbrev pub invariant-some_may_wait-loop-s : goal.invariant-some_may_wait-loop-s
invariant-some_may_wait-loop-s l = some_may_wait (statements (drop l.s-index l.ss)) ≡ some_may_wait (statements l.ss)
