use Rattle.std.proofs.Common.{◌∙◌}
use Rattle.xk_callgraph.proofs.NumberingLemmas.{row_at}
use Rattle.xk_callgraph.proofs.numbering.called_by.Goals as goal

pub returns : goal.returns
returns c = c.deref.ensures.value ∙ row_at c.args.calls.now c.args.i c.index-calls-i.result c.requires c.index-calls-i.is
