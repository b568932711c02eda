-- nothing before this instruction is refused
use Rattle.xk_typestate.proofs.LeastStopLemmas.{IsUnrefusedBefore}
use Rattle.xk_typestate.proofs.least_refusal.first_stop.Given as goal

abbrev pub invariant-loop-at : goal.invariant-loop-at
invariant-loop-at l = IsUnrefusedBefore l.m l.u l.at
