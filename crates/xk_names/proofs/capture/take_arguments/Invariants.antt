use Rattle.std.proofs.Common.{◌≡◌, drop}
use Rattle.std.specs.List.{flat_map}
use Rattle.xk_names.specs.StatementParts.{arguments}
use Rattle.xk_names.specs.Captures.{argument_words, words_besides}
use Rattle.xk_names.specs.FaultList.{put_texts}
use Rattle.xk_names.proofs.capture.take_arguments.Given as goal

abbrev pub invariant-loop-argument : goal.invariant-loop-argument
invariant-loop-argument l =
    put_texts l.out (words_besides l.own (flat_map (λ a. argument_words a.0 a.1) (arguments (drop l.argument-index l.given))))
    ≡ put_texts l.fn.out (words_besides l.own (flat_map (λ a. argument_words a.0 a.1) (arguments l.given)))
