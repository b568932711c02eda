use Rattle.xk_callgraph.specs.CallGraph.{adjacency}
use Rattle.xk_callgraph.proofs.NumberingLemmas.{none_recursive}
use Rattle.xk_callgraph.proofs.numbering.numbers_in_order.Goals as goal

pub returns-in-Ok-clause-none : goal.returns-in-Ok-clause-none
returns-in-Ok-clause-none c = none_recursive (adjacency c.args.calls.now) c.in-Ok.numbers.items (rw c.in-Ok.is at c.in_ok-r.ensures.falls)
