use Rattle.xk_law_compiler.proofs.CompiledOnceLaw.{one_compiled}
use Rattle.xk_law_compiler.proofs.laws.compiled_once.Goals as goal

pub returns : goal.returns
returns c = one_compiled
