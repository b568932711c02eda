use Rattle.std.proofs.Common.{◌≡◌, ◌++◌}
use Rattle.xk_show_events.specs.Worlds.{each_below}
use Rattle.xk_show_rounds.specs.RoundRows.{cell}
use Rattle.xk_show_rounds.proofs.cells.push_cells.Given as goal

-- what those before do was added
abbrev pub invariant-loop-act : goal.invariant-loop-act
invariant-loop-act l = l.out.items ≡ l.fn.out.items ++ each_below (cell l.grid l.names l.steps) l.act
