use Rattle.std.proofs.Common.{◌≡◌, drop, map}
use Rattle.std.specs.List.{flat_map}
use Rattle.xk_tree.specs.declared.fault.FrontRule.TheVariants as rule
use Rattle.xk_names.specs.Faults.{fault}
use Rattle.xk_names.specs.Uses.{argument_misfits}
use Rattle.xk_names.specs.StatementParts.{arguments}
use Rattle.xk_names.specs.FaultList.{least}
use Rattle.xk_names.proofs.arguments.check_misfits.Given as goal

abbrev pub invariant-loop-argument : goal.invariant-loop-argument
invariant-loop-argument l =
    least l.worst (map (fault rule.WrongKind) (flat_map (λ a. argument_misfits a.0 a.1) (arguments (drop l.argument-index l.given))))
    ≡ least l.fn.worst (map (fault rule.WrongKind) (flat_map (λ a. argument_misfits a.0 a.1) (arguments l.given)))
