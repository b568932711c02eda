use Rattle.std.proofs.Common.{◌≡◌, ◌++◌, take}
use Rattle.std.specs.List.{flat_map}
use Rattle.xk_show_span.specs.Text.{more_words}
use Rattle.xk_show_span.proofs.lines.push_each.Given as goal

-- those so far were added
abbrev pub invariant-loop-count : goal.invariant-loop-count
invariant-loop-count l = l.out.items ≡ l.fn.out.items ++ flat_map more_words (take l.count-index l.counts)
