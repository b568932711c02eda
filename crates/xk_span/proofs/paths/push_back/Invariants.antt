use Rattle.std.proofs.Common.{◌≡◌, ◌++◌, ◌-◌}
use Rattle.xk_span.specs.Paths.{back_from}
use Rattle.xk_span.proofs.paths.push_back.Given as goal

-- those so far, and what is still to come, are all
abbrev pub invariant-loop : goal.invariant-loop
invariant-loop l = l.path.items ++ back_from l.links (l.j - l.counter) l.at ≡ l.fn.path.items ++ back_from l.links l.j l.j
