use Rattle.xk_syntax.proofs.ProgramLemmas.{program_found, program_again}
use Rattle.xk_syntax.proofs.laws.programs.Goals as goal

pub returns-clause-found : goal.returns-clause-found
returns-clause-found c = program_found

pub returns-clause-again : goal.returns-clause-again
returns-clause-again c = program_again
