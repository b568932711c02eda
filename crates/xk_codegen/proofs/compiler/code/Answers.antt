use Rattle.std.proofs.Common.{Err, ap}
use Rattle.std.proofs.lemmas.Result.{err_from_is_err_and}
use Rattle.xk_codegen.proofs.FaultLemmas.{passed_on}
use Rattle.xk_codegen.proofs.compiler.code.Goals as goal

pub returns-in_err-check_shared-clause-fault : goal.returns-in_err-check_shared-clause-fault
returns-in_err-check_shared-clause-fault c = λ f e.
    let p = err_from_is_err_and c.from_residual.result c.from_residual.ensures.1 in
    c.in_err-check_shared.ensures.fault f (ap Err (passed_on c.from_residual.result p.0 c.in_err-check_shared.field-0.0 f p.1 p.2 e))
