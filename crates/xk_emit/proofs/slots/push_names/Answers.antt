use Rattle.std.proofs.Common.{arith}
use Rattle.std.proofs.lemmas.Result.{err_from_is_err_and}
use Rattle.xk_tree.specs.Tree.{word}
use Rattle.xk_emit.specs.NameCoverage.{IsFound}
use Rattle.xk_emit.proofs.CodeErrorLemmas.{all_read_two, denies}
use Rattle.xk_emit.proofs.slots.push_names.Goals as goal

pub returns-in_err-number-clause-refused : goal.returns-in_err-number-clause-refused
returns-in_err-number-clause-refused c =
    let p = err_from_is_err_and c.from_residual.result c.from_residual.ensures.1 in
    rw (p.1, p.2) (denies c.in_err-number.field-0.0 c.in_err-number.ensures.refused
    (λ k. all_read_two (IsFound c.args.scope.now) (λ w. w.text) word c.args.names.now c.loop-name.name-index _ k (omega arith)) (λ m. tt))
