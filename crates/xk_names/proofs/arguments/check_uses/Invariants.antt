use Rattle.std.proofs.Common.{◌≡◌, drop}
use Rattle.std.specs.List.{flat_map}
use Rattle.xk_names.specs.Uses.{argument_uses}
use Rattle.xk_names.specs.StatementParts.{arguments}
use Rattle.xk_names.specs.FaultList.{least, use_faults}
use Rattle.xk_names.proofs.arguments.check_uses.Given as goal

abbrev pub invariant-loop-argument : goal.invariant-loop-argument
invariant-loop-argument l =
    least l.worst (flat_map (use_faults l.scope) (flat_map (λ a. argument_uses a.0 a.1) (arguments (drop l.argument-index l.given))))
    ≡ least l.fn.worst (flat_map (use_faults l.scope) (flat_map (λ a. argument_uses a.0 a.1) (arguments l.given)))
