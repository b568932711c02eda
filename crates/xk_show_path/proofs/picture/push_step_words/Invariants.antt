use Rattle.std.proofs.Common.{◌≡◌, ◌++◌, take}
use Rattle.std.specs.List.{flat_map}
use Rattle.xk_show_path.specs.PathPicture.{step_words}
use Rattle.xk_show_path.proofs.picture.push_step_words.Given as goal

-- those so far were added
abbrev pub invariant-loop-step : goal.invariant-loop-step
invariant-loop-step l = l.out.items ≡ l.fn.out.items ++ flat_map (step_words l.rounds) (take l.step-index l.boxes)
