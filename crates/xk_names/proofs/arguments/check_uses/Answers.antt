use Rattle.std.proofs.Common.{◌∙◌, arith}
use Rattle.xk_names.proofs.ArgumentLoopLemmas.{uses_turn}
use Rattle.xk_names.proofs.arguments.check_uses.Goals as goal

pub loop-argument-preserved : goal.loop-argument-preserved
loop-argument-preserved c =
    uses_turn c.args.scope.now c.args.given.now c.loop-argument.argument-index c.argument-item.result c.loop-argument.worst c.check_argument.new.worst
    (omega arith) c.argument-item.is c.check_argument.ensures
    ∙ c.loop-argument.invariant
