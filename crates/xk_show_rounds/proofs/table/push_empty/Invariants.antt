use Rattle.std.proofs.Common.{◌≡◌, ◌++◌, [], replicate}
use Rattle.xk_show_rounds.proofs.table.push_empty.Given as goal

-- so many were added
abbrev pub invariant-loop : goal.invariant-loop
invariant-loop l = l.table.items ≡ l.fn.table.items ++ replicate l.counter []
