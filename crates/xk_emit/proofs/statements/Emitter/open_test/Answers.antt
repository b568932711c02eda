use Rattle.std.proofs.Common.{length}
use Rattle.std.proofs.lemmas.Result.{err_from_is_err_and}
use Rattle.xk_emit.proofs.CodeErrorLemmas.{denies}
use Rattle.xk_emit.proofs.RoomLemmas.{room_first}
use Rattle.xk_emit.proofs.statements.Emitter.open_test.Goals as goal

pub returns-in_err-x-clause-refused : goal.returns-in_err-x-clause-refused
returns-in_err-x-clause-refused c =
    let p = err_from_is_err_and c.from_residual.result c.from_residual.ensures.1 in
    rw (p.1, p.2) (denies c.in_err-x.field-0.0 c.in_err-x.ensures.refused (λ k. k) (λ m. room_first c.args.scope.now (length c.args.code.now.items) _ _ m))
