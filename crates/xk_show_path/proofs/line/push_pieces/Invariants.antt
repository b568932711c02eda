use Rattle.std.proofs.Common.{◌≡◌, ◌++◌, take}
use Rattle.std.specs.List.{flat_map}
use Rattle.xk_show_path.specs.PathPicture.{piece_to}
use Rattle.xk_show_path.proofs.line.push_pieces.Given as goal

-- the line so far was added
abbrev pub invariant-loop-step : goal.invariant-loop-step
invariant-loop-step l = l.out.items ≡ l.fn.out.items ++ flat_map (piece_to l.sheet l.rows) (take l.step-index l.more)
