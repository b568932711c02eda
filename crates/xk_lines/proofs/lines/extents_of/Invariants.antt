-- where the words of the lines so far stand
use Rattle.std.proofs.Common.{◌≡◌, map, take}
use Rattle.xk_lines.specs.Extents.{extent_of}
use Rattle.xk_lines.proofs.lines.extents_of.Given as goal

abbrev pub invariant-loop-start : goal.invariant-loop-start
invariant-loop-start l = l.extents.items ≡ map (extent_of l.text) (take l.start-index l.starts)
