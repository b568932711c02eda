-- the kinds so far are put
use Rattle.xk_typestate.proofs.SearchLemmas.{ArePut}
use Rattle.xk_typestate.proofs.fixed_point.Search.put_all.Given as goal

abbrev pub invariant-loop-kind : goal.invariant-loop-kind
invariant-loop-kind l = ArePut l.initial.self l.self l.to l.kinds l.from l.kind-index
