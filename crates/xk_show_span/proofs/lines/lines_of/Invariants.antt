use Rattle.std.proofs.Common.{◌≡◌, drop}
use Rattle.xk_show_span.specs.Text.{lines_from, lines_of}
use Rattle.xk_show_span.proofs.lines.lines_of.Given as goal

-- those so far, with the rest
abbrev pub invariant-loop-step : goal.invariant-loop-step
invariant-loop-step l = lines_from l.places l.counts.items (drop l.step-index l.path) ≡ lines_of l.places l.path
