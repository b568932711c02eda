use Rattle.std.proofs.Common.{◌≡◌}
use Rattle.xk_show_where.proofs.ProgressLemmas.{IsAt}
use Rattle.xk_show_where.proofs.progress.take_steps.Given as goal

-- the entries before this one were taken whole
abbrev pub invariant-loop-i : goal.invariant-loop-i
invariant-loop-i l = (l.core.module_run ≡ l.verified) × IsAt l.verified l.arguments l.log l.i l.core.world
