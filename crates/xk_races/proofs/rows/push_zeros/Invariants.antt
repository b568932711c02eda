use Rattle.std.proofs.Common.{◌≡◌, ◌++◌, replicate}
use Rattle.xk_races.proofs.rows.push_zeros.Given as goal

abbrev pub invariant-loop : goal.invariant-loop
invariant-loop l = l.numbers.items ≡ l.fn.numbers.items ++ replicate l.counter 0
