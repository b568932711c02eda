-- the arguments that are left decide
use Rattle.std.proofs.Common.{◌≡◌, length}
use Rattle.xk_types.specs.Walk.{After, gives}
use Rattle.xk_typestate.proofs.transfer.give.Given as goal

abbrev pub invariant-loop-param : goal.invariant-loop-param
invariant-loop-param l = (go : After) → gives l.fn.arguments.params l.fn.arguments.slots l.slot l.kind go ≡ gives l.arguments.params l.arguments.slots l.slot l.kind go

abbrev pub decreases-loop-param : goal.decreases-loop-param
decreases-loop-param l = length l.arguments.slots
