use Rattle.std.proofs.Common.{◌≡◌, ◌≤◌}
use Rattle.xk_core.specs.Core.{is_living}
use Rattle.xk_show_events.specs.Endings.{count_below}
use Rattle.xk_show_events.proofs.legal_run.living.Given as goal

-- those so far are counted, each once
abbrev pub invariant-loop-act : goal.invariant-loop-act
invariant-loop-act l = (l.count ≡ count_below (is_living l.core.world) l.act) × (l.count ≤ l.act)
