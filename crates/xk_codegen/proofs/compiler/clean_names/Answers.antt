use Rattle.xk_codegen.specs.Faults.{InNames}
use Rattle.xk_codegen.proofs.compiler.clean_names.Goals as goal

pub returns-clause-fault : goal.returns-clause-fault
returns-clause-fault c = λ f e. InNames (c.check_names.ensures.fault f e)
