use Rattle.std.proofs.Common.{◌≡◌, ◌++◌, replicate, pos}
use Rattle.xk_activity.proofs.stack.fill.Given as goal

-- so many words were put on
abbrev pub invariant-loop : goal.invariant-loop
invariant-loop l = (l.stack.items ≡ l.initial.stack.items ++ replicate l.counter (pos 0)) × (l.stack.capacity ≡ l.initial.stack.capacity)
