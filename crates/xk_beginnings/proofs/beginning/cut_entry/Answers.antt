use Rattle.xk_beginnings.proofs.BeginningLemmas.{cut_is}
use Rattle.xk_beginnings.proofs.beginning.cut_entry.Goals as goal

pub returns : goal.returns
returns c = cut_is c.args.steps c.args.entry _
