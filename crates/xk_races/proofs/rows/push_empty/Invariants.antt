use Rattle.std.proofs.Common.{◌≡◌, ◌++◌, [], replicate}
use Rattle.xk_races.proofs.rows.push_empty.Given as goal

abbrev pub invariant-loop : goal.invariant-loop
invariant-loop l = l.rows.items ≡ l.fn.rows.items ++ replicate l.counter []
