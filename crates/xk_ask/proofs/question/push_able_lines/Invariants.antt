use Rattle.std.proofs.Common.{◌≡◌, ◌++◌}
use Rattle.std.specs.Prelude.{filter, flat_map}
use Rattle.xk_types.specs.Schedule.{is_enabled}
use Rattle.xk_collections.specs.NumberSets.{numbers_from}
use Rattle.xk_ask.specs.Play.{able_line}
use Rattle.xk_ask.proofs.question.push_able_lines.Given as goal

-- the lines of those below were added
abbrev pub invariant-loop-act : goal.invariant-loop-act
invariant-loop-act l =
    l.out.items ≡ l.fn.out.items ++ flat_map (able_line l.text l.core.world) (filter (is_enabled l.core.module_run l.core.world) (numbers_from 0 l.act))
