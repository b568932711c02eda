use Rattle.std.proofs.Common.{◌≤◌, length}
use Rattle.xk_finishes.specs.Counters.{CountsSame}
use Rattle.xk_finishes.proofs.counters.Counters.make_list.Given as goal

-- only lists without a counter were pushed, and there are as many as were gone through
abbrev pub invariant-loop : goal.invariant-loop
invariant-loop l = CountsSame l.initial.self-inside.owners.items l.self-inside.owners.items × (l.counter ≤ length l.self-inside.owners.items)
