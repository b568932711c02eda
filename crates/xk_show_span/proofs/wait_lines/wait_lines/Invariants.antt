use Rattle.std.proofs.Common.{◌≡◌, take}
use Rattle.std.specs.List.{flat_map}
use Rattle.xk_show_span.specs.Text.{wait_line_at}
use Rattle.xk_show_span.proofs.wait_lines.wait_lines.Given as goal

-- the lines so far
abbrev pub invariant-loop-count : goal.invariant-loop-count
invariant-loop-count l = l.out.items ≡ flat_map (wait_line_at l.places l.waits) (take l.count-index l.counts)
