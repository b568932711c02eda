use Rattle.std.proofs.Common.{◌≡◌, take}
use Rattle.std.specs.List.{flat_map}
use Rattle.xk_show_path.specs.PathPicture.{if_box}
use Rattle.xk_show_path.proofs.line.boxes_of.Given as goal

-- those so far
abbrev pub invariant-loop-step : goal.invariant-loop-step
invariant-loop-step l = l.list.items ≡ flat_map (if_box l.window) (take l.step-index l.path)
