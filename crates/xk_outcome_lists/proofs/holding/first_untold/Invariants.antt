use Rattle.xk_outcome_lists.specs.Expected.{AreTold}
use Rattle.xk_outcome_lists.proofs.holding.first_untold.Given as goal

-- those before are told
abbrev pub invariant-loop-place : goal.invariant-loop-place
invariant-loop-place l = AreTold l.expected l.list l.place
