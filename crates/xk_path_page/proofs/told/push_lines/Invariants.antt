use Rattle.std.proofs.Common.{◌≡◌, ◌++◌}
use Rattle.xk_show_events.specs.Worlds.{each_below}
use Rattle.xk_path_page.specs.PathPage.{line_if_any}
use Rattle.xk_path_page.proofs.told.push_lines.Given as goal

-- those of the lines so far were added
abbrev pub invariant-loop-line : goal.invariant-loop-line
invariant-loop-line l = l.out.items ≡ l.fn.out.items ++ each_below (line_if_any l.counts) l.line
