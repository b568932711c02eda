use Rattle.std.proofs.Common.{Err}
use Rattle.std.proofs.lemmas.Result.{err_from_is_err_and}
use Rattle.xk_tree.specs.Program.{tree_value}
use Rattle.xk_program.proofs.UnfitTextLemmas.{uncompiled}
use Rattle.xk_program.proofs.program_loader.tree_program.Goals as goal

pub returns-in_err-module-clause-fault : goal.returns-in_err-module-clause-fault
returns-in_err-module-clause-fault c =
    let p = err_from_is_err_and c.from_residual.result c.from_residual.ensures.1 in
    rw (p.1, p.2) (uncompiled c.args.bytes.now (tree_value c.args.tree.now) (Err c.in_err-module.field-0.0) c.requires.source c.in_err-module.ensures.fault)
