use Rattle.std.proofs.Common.{◌≡◌, drop}
use Rattle.xk_tree.specs.Tree.{statements}
use Rattle.xk_hints.specs.Deeds.{make_clock}
use Rattle.xk_hints.proofs.deeds.+clocks.Given as goal

-- none is made before what is left
abbrev pub invariant-make_clock-loop-s : goal.invariant-make_clock-loop-s
invariant-make_clock-loop-s l = make_clock (statements (drop l.s-index l.ss)) ≡ make_clock (statements l.ss)
