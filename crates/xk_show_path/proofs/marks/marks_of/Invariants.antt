use Rattle.std.proofs.Common.{take}
use Rattle.xk_show_path.specs.Rounds.{AreMarks}
use Rattle.xk_show_path.proofs.marks.marks_of.Given as goal

-- those of the steps so far
abbrev pub invariant-loop-step : goal.invariant-loop-step
invariant-loop-step l = AreMarks (take l.step-index l.path) l.marks.items
