use Rattle.xk_origins.proofs.LengthLemmas.{code_length}
use Rattle.xk_origins.proofs.laws.as_many_as_instructions.Goals as goal

pub returns : goal.returns
returns c = code_length
