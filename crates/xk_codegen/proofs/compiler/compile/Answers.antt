use Rattle.std.proofs.Common.{Err, ap, rules}
use Rattle.xk_tree.specs.Program.{tree_value}
use Rattle.xk_tree.specs.declared.fault.FrontError.TheVariants as error
use Rattle.xk_codegen.specs.Faults.{InTables, IsFalling}
use Rattle.xk_codegen.proofs.FaultLemmas.{same_error}
use Rattle.xk_codegen.proofs.compiler.compile.Goals as goal

pub returns-in-Ok-clause-fault : goal.returns-in-Ok-clause-fault
returns-in-Ok-clause-fault c = λ f e.
    let falls : IsFalling (tree_value c.args.tree.now) = search rules in InTables c.in-Ok.ensures.clean falls (c.code.ensures.fault f e)

pub returns-in-Err-clause-fault : goal.returns-in-Err-clause-fault
returns-in-Err-clause-fault c = λ f e. c.in-Err.ensures.fault f (ap Err (same_error c.in-Err.e (error.Fault f) e))
