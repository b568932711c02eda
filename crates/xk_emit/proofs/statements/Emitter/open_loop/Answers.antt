use Rattle.std.proofs.Common.{length}
use Rattle.std.proofs.lemmas.Result.{err_from_is_err_and}
use Rattle.xk_emit.proofs.CodeErrorLemmas.{denies}
use Rattle.xk_emit.proofs.RoomLemmas.{room_first}
use Rattle.xk_emit.proofs.statements.Emitter.open_loop.Goals as goal

pub returns-in_err-emit_limit-clause-refused : goal.returns-in_err-emit_limit-clause-refused
returns-in_err-emit_limit-clause-refused c =
    let p = err_from_is_err_and c.from_residual-in_err-emit_limit.result c.from_residual-in_err-emit_limit.ensures.1 in
    rw (p.1, p.2)
    (denies c.in_err-emit_limit.field-0.0 c.in_err-emit_limit.ensures.refused (λ k. k.0) (λ m. room_first c.args.scope.now (length c.args.code.now.items) _ _ m.0))
