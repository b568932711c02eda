-- the kinds so far are allowed
use Rattle.xk_typestate.proofs.LeastStopLemmas.{AreAllowedBelow}
use Rattle.xk_typestate.proofs.least_refusal.stop_of.Given as goal

abbrev pub invariant-loop-kind : goal.invariant-loop-kind
invariant-loop-kind l = AreAllowedBelow l.m l.u l.slot l.at l.kinds l.kind-index
