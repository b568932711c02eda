use Rattle.std.proofs.lemmas.Result.{err_from_is_err_and}
use Rattle.xk_program.proofs.UnfitModuleLemmas.{no_module}
use Rattle.xk_program.proofs.UnfitTextLemmas.{no_source}
use Rattle.xk_program.proofs.program_loader.program_by.Goals as goal

pub returns-in_ok-module_program-in-Module-clause-from : goal.returns-in_ok-module_program-in-Module-clause-from
returns-in_ok-module_program-in-Module-clause-from c = rw c.in-Module.is (c.in_ok-module_program-in-Module.ensures.from c.args.has_origins)

pub returns-in_err-module_program-in-Module-clause-fault : goal.returns-in_err-module_program-in-Module-clause-fault
returns-in_err-module_program-in-Module-clause-fault c =
    let p = err_from_is_err_and c.from_residual.result c.from_residual.ensures.1 in
    rw (p.1, p.2) (no_module c.args.form c.args.bytes.now c.in_err-module_program-in-Module.field-0.0 c.in-Module.is c.in_err-module_program-in-Module.ensures.fault)

pub returns-in_err-source_program-in-Source-clause-fault : goal.returns-in_err-source_program-in-Source-clause-fault
returns-in_err-source_program-in-Source-clause-fault c =
    let p = err_from_is_err_and c.from_residual-in_err-source_program-in-Source.result c.from_residual-in_err-source_program-in-Source.ensures.1 in
    rw (p.1, p.2) (no_source c.args.form c.args.bytes.now c.in_err-source_program-in-Source.field-0.0 c.in-Source.is c.in_err-source_program-in-Source.ensures.fault)
