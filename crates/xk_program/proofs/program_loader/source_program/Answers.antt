use Rattle.xk_program.proofs.UnfitTextLemmas.{unspelled}
use Rattle.xk_program.proofs.program_loader.source_program.Goals as goal

pub returns-in-Err-clause-fault : goal.returns-in-Err-clause-fault
returns-in-Err-clause-fault c = unspelled c.args.bytes.now c.in-Err.e c.in-Err.ensures.fault
