use Rattle.xk_beginnings.proofs.BeginningLemmas.{first_steps_taken}
use Rattle.xk_beginnings.proofs.beginning.beginnings.Goals as goal

pub returns : goal.returns
returns c = first_steps_taken
