use Rattle.std.proofs.Common.{◌≡◌, length}
use Rattle.xk_explain_names.specs.LentClocks.{has_finish}
use Rattle.xk_explain_names.proofs.lent_clocks.has_finish.Given as goal

-- none stands before what is left
abbrev pub invariant-loop-rest : goal.invariant-loop-rest
invariant-loop-rest l = has_finish l.rest ≡ has_finish l.text

abbrev pub decreases-loop-rest : goal.decreases-loop-rest
decreases-loop-rest l = length l.rest
