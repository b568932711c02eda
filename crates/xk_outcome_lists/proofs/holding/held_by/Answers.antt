use Rattle.std.proofs.Common.{ap}
use Rattle.xk_outcome_lists.proofs.HoldingLemmas.{decided, is_undecided}
use Rattle.xk_outcome_lists.proofs.holding.held_by.Goals as goal

pub returns-in-Complete : goal.returns-in-Complete
returns-in-Complete c bytes stands told =
    decided c.args.verified.now c.args.arguments.now c.args.sets c.early.result c.args.limit bytes _ _
    (ap is_undecided c.in-Complete.is) c.early.ensures
    (c.in_ok-first.ensures bytes stands told)

pub returns-in-Refuted : goal.returns-in-Refuted
returns-in-Refuted c bytes stands told =
    decided c.args.verified.now c.args.arguments.now c.args.sets c.early.result c.args.limit bytes _ _
    (ap is_undecided c.in-Refuted.is) c.early.ensures
    (c.in_ok-first.ensures bytes stands told)
