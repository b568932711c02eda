use Rattle.std.proofs.Common.{◌≡◌, ◌++◌, replicate}
use Rattle.xk_show_names.proofs.writers.push_zeros.Given as goal

abbrev pub invariant-loop : goal.invariant-loop
invariant-loop l = l.steps.items ≡ l.fn.steps.items ++ replicate l.counter 0
