use Rattle.xk_scheduler.proofs.RosterLemmas.{AreListedBelow}
use Rattle.xk_scheduler.proofs.roster.Roster.list_all.Given as goal

-- those so far are listed
abbrev pub invariant-loop-a : goal.invariant-loop-a
invariant-loop-a l = AreListedBelow l.core l.a l.self
