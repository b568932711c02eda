use Rattle.xk_explain_faults.proofs.further.+push_further.Given as goal

-- one fault fewer
abbrev pub decreases-push_further : goal.decreases-push_further
decreases-push_further l = l.left
