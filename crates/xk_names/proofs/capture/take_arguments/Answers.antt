use Rattle.std.proofs.Common.{◌∙◌, arith}
use Rattle.xk_names.proofs.CaptureStepLemmas.{given_turn}
use Rattle.xk_names.proofs.capture.take_arguments.Goals as goal

pub loop-argument-preserved : goal.loop-argument-preserved
loop-argument-preserved c =
    given_turn c.args.own.now c.args.given.now c.loop-argument.argument-index c.argument-item.result c.loop-argument.out c.take_argument.new.out
    (omega arith) c.argument-item.is c.in_ok-take_argument.ensures
    ∙ c.loop-argument.invariant
