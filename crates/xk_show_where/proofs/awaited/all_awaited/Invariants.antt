use Rattle.xk_show_where.specs.Awaited.{AreAwaited}
use Rattle.xk_show_where.proofs.awaited.all_awaited.Given as goal

-- those so far are noted
abbrev pub invariant-loop-act : goal.invariant-loop-act
invariant-loop-act l = AreAwaited l.core.world l.act l.table.items
