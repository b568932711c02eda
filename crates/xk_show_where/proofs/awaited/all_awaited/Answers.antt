-- One activity after the other is noted.
use Rattle.xk_show_where.proofs.AwaitedLemmas.{none_noted}
use Rattle.xk_show_where.proofs.awaited.all_awaited.Goals as goal

pub loop-act-init : goal.loop-act-init
loop-act-init c =
    none_noted c.args.core.now.world c.activities-count.result c.in_ok-table.table.items c.activities-count.ensures.count
    c.in_ok-table.ensures
