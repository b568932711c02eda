use Rattle.std.proofs.Common.{◌≡◌, ◌++◌, replicate}
use Rattle.xk_span.specs.Times.{no_mark}
use Rattle.xk_span.proofs.marks.push_none.Given as goal

abbrev pub invariant-loop : goal.invariant-loop
invariant-loop l = l.marks.items ≡ l.fn.marks.items ++ replicate l.counter no_mark
