use Rattle.std.proofs.Common.{◌∙◌, ap, length}
use Rattle.std.proofs.lemmas.Result.{on_ok_weaker}
use Rattle.std.specs.List.{flat_map}
use Rattle.xk_tree.specs.Tree.{word}
use Rattle.xk_names.specs.Uses.{argument_clocks}
use Rattle.xk_names.specs.StatementParts.{arguments}
use Rattle.xk_names.specs.FaultList.{least, repeats}
use Rattle.xk_names.proofs.CallFaultLemmas.{call_found, count_told}
use Rattle.xk_names.proofs.arguments.check_arguments.Goals as goal

pub returns : goal.returns
returns c =
    on_ok_weaker c.check_clocks.result (λ h.
    call_found c.args.scope.now (word c.args.g) c.args.params.now c.args.values.now (arguments c.as_slice-given.result.now)
    c.args.worst.now c.check_uses.new.worst c.check_misfits.new.worst c.note_if.new.worst c.check_clocks.new.worst
    (ap arguments c.as_slice-given.ensures.value ∙ c.in_ok-given.ensures)
    c.check_uses.ensures c.check_misfits.ensures
    (c.note_if.ensures ∙ ap (least c.check_misfits.new.worst) (count_told (length c.args.params.now) (length c.args.values.now) c.args.g.at))
    (h ∙ ap (λ k. least c.note_if.new.worst (repeats k (flat_map (λ a. argument_clocks a.0 a.1) (arguments c.as_slice-given.result.now)))) c.new.ensures))
    c.check_clocks.ensures.faults
