use Rattle.xk_program.proofs.UnfitModuleLemmas.{unread}
use Rattle.xk_program.proofs.program_loader.module_of.Goals as goal

pub returns-clause-fault : goal.returns-clause-fault
returns-clause-fault c =
    let said = c.read_module.ensures in unread c.args.bytes.now c.read_module.result c.if-bytes-gt-LONGEST_MODULE.false said.not_json said.not_a_module said.beyond_limits
