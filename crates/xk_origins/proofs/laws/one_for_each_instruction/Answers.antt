use Rattle.xk_origins.proofs.UnitLemmas.{one_for_each}
use Rattle.xk_origins.proofs.laws.one_for_each_instruction.Goals as goal

pub returns : goal.returns
returns c = one_for_each
