use Rattle.std.proofs.Common.{◌≡◌, filter, take, string_bytes}
use Rattle.xk_core.specs.Core.{is_registered_on}
use Rattle.xk_replay.specs.Chart.{acts_text}
use Rattle.xk_replay.proofs.clock_chart.acts_text.Given as goal

-- those so far who are registered are written
abbrev pub invariant-loop-act : goal.invariant-loop-act
invariant-loop-act l = string_bytes l.text ≡ acts_text (filter (λ a. is_registered_on l.core.world a l.clock) (take l.act-index l.living))
