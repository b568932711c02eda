use Rattle.xk_show_rounds.proofs.TableLemmas.{table_more}
use Rattle.xk_show_rounds.proofs.table.table_of.Goals as goal

pub loop-account-preserved : goal.loop-account-preserved
loop-account-preserved c =
    rw (c.in_ok-push_at.ensures, c.round_of-round.ensures)
    (table_more c.args.rounds.now c.args.steps.now c.loop-account.account-index _ c.loop-account.table.items
    c.loop-account-test.true c.loop-account.invariant)
