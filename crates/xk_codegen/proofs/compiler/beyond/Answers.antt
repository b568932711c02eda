use Rattle.xk_codegen.proofs.FaultLemmas.{beyond_none, beyond_there}
use Rattle.xk_codegen.proofs.compiler.beyond.Goals as goal

pub returns-in-None : goal.returns-in-None
returns-in-None c = beyond_none c.args.parts.now c.in-None.ensures.lookup.3

pub returns-in-Some : goal.returns-in-Some
returns-in-Some c = beyond_there c.args.parts.now c.in-Some.p.now c.offset.result c.in-Some.ensures.lookup.3.0 c.in-Some.ensures.lookup.1 c.offset.ensures
