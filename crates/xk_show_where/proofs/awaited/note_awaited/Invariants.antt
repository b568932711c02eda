use Rattle.xk_show_where.proofs.AwaitedLemmas.{IsNoting}
use Rattle.xk_show_where.proofs.awaited.note_awaited.Given as goal

-- the way up has come to this one
abbrev pub invariant-up : goal.invariant-up
invariant-up l = IsNoting l.core.world l.act l.member l.table.items

abbrev pub decreases-up : goal.decreases-up
decreases-up l = l.member
