use Rattle.std.proofs.Common.{◌≡◌, ◌++◌, take}
use Rattle.std.specs.List.{flat_map}
use Rattle.xk_show_where.specs.Where.{act_word}
use Rattle.xk_show_where.proofs.excerpts.push_each.Given as goal

-- the activities so far were added
abbrev pub invariant-loop-act : goal.invariant-loop-act
invariant-loop-act l = l.out.items ≡ l.fn.out.items ++ flat_map act_word (take l.act-index l.acts)
