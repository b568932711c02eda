use Rattle.std.proofs.Common.{◌≡◌, ◌++◌, map}
use Rattle.xk_show_events.specs.Worlds.{each_below}
use Rattle.xk_show_where.specs.Where.{named_line}
use Rattle.xk_show_where.proofs.named.push_all_named.Given as goal

-- the lines so far were added
abbrev pub invariant-loop-number : goal.invariant-loop-number
invariant-loop-number l = l.out.items ≡ l.fn.out.items ++ each_below (named_line (map (λ x. x.now) l.shared) l.cells) l.number
