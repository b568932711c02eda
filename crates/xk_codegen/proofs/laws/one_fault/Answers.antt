use Rattle.xk_codegen.proofs.OneFaultLaw.{not_faulty, told_once}
use Rattle.xk_codegen.proofs.laws.one_fault.Goals as goal

pub returns-clause-told : goal.returns-clause-told
returns-clause-told c = told_once

pub returns-clause-alone : goal.returns-clause-alone
returns-clause-alone c = not_faulty
