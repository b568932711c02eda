use Rattle.std.proofs.Common.{◌≡◌, drop}
use Rattle.std.specs.List.{flat_map}
use Rattle.xk_names.specs.Uses.{argument_clocks}
use Rattle.xk_names.specs.StatementParts.{arguments}
use Rattle.xk_names.specs.FaultList.{least, repeats, put_texts}
use Rattle.xk_names.proofs.arguments.check_clocks.Given as goal

abbrev pub invariant-loop-argument : goal.invariant-loop-argument
invariant-loop-argument l = record {
  faults : least l.worst (repeats l.clocks (flat_map (λ a. argument_clocks a.0 a.1) (arguments (drop l.argument-index l.given))))
      ≡ least l.fn.worst (repeats l.fn.clocks (flat_map (λ a. argument_clocks a.0 a.1) (arguments l.given)));
  clocks : put_texts l.clocks (flat_map (λ a. argument_clocks a.0 a.1) (arguments (drop l.argument-index l.given)))
      ≡ put_texts l.fn.clocks (flat_map (λ a. argument_clocks a.0 a.1) (arguments l.given));
}
