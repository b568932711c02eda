use Rattle.xk_origins.proofs.OwnInstructionLemmas.{compiled_is_of}
use Rattle.xk_origins.proofs.laws.each_is_of_its_origin.Goals as goal

pub returns : goal.returns
returns c = compiled_is_of
