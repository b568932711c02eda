use Rattle.std.proofs.Common.{◌≡◌, ◌++◌, replicate}
use Rattle.xk_races_summary.specs.Accesses.{none_yet}
use Rattle.xk_races.proofs.accesses.push_empty.Given as goal

abbrev pub invariant-loop : goal.invariant-loop
invariant-loop l = l.cells.items ≡ l.fn.cells.items ++ replicate l.counter none_yet
