use Rattle.xk_callgraph.proofs.numbering.comes_back.Goals as goal

pub loop-at-preserved : goal.loop-at-preserved
loop-at-preserved c = c.in_ok-found.ensures.within c.args.from c.loop-at.invariant
