use Rattle.std.proofs.Common.{◌≡◌, [], replicate}
use Rattle.xk_show_where.specs.Excerpts.{excerpt_of}
use Rattle.xk_show_where.proofs.awaited.empty_excerpts.Given as goal

-- so many are there
abbrev pub invariant-loop : goal.invariant-loop
invariant-loop l = l.table.items ≡ replicate l.counter (excerpt_of [])
