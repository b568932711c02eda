use Rattle.std.proofs.Common.{◌≡◌, take}
use Rattle.std.specs.List.{flat_map}
use Rattle.xk_show_span.specs.Text.{stretch_line}
use Rattle.xk_show_span.proofs.path.stretch_lines.Given as goal

-- the lines so far
abbrev pub invariant-loop-stretch : goal.invariant-loop-stretch
invariant-loop-stretch l = l.out.items ≡ flat_map (stretch_line l.places) (take l.stretch-index l.list)
