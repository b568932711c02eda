use Rattle.std.proofs.Common.{arith}
use Rattle.std.proofs.lemmas.Result.{err_from_is_err_and}
use Rattle.xk_emit.specs.NameCoverage.{IsFound}
use Rattle.xk_emit.proofs.CodeErrorLemmas.{all_read, denies}
use Rattle.xk_emit.proofs.slots.push_texts.Goals as goal

pub returns-in_err-slot-clause-refused : goal.returns-in_err-slot-clause-refused
returns-in_err-slot-clause-refused c =
    let p = err_from_is_err_and c.from_residual.result c.from_residual.ensures.1 in
    rw (p.1, p.2) (denies c.in_err-slot.field-0.0 c.in_err-slot.ensures.refused
    (λ k. all_read (IsFound c.args.scope.now) (λ x. x.now) c.args.names.now c.loop-name.name-index _ k (omega arith)) (λ m. tt))
