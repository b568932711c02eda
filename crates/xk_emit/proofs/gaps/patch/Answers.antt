use Rattle.xk_emit.proofs.BackpatchLemmas.{patched}
use Rattle.xk_emit.proofs.gaps.patch.Goals as goal

pub returns-then-at-len-clause-code : goal.returns-then-at-len-clause-code
returns-then-at-len-clause-code c = patched c.args.code.now.items c.args.at c.args.instr
