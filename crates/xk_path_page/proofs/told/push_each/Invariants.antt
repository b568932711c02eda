use Rattle.std.proofs.Common.{◌≡◌, ◌++◌, take}
use Rattle.std.specs.List.{flat_map}
use Rattle.xk_path_page.specs.PathPage.{step_line}
use Rattle.xk_path_page.proofs.told.push_each.Given as goal

-- those so far were added
abbrev pub invariant-loop-step : goal.invariant-loop-step
invariant-loop-step l = l.out.items ≡ l.fn.out.items ++ flat_map (step_line l.rounds) (take l.step-index l.steps)
