use Rattle.std.proofs.Common.{◌∙◌, sym}
use Rattle.xk_scheduler.proofs.WakeLemmas.{asked_none}
use Rattle.xk_scheduler.proofs.roster.Roster.list_woken.Goals as goal

pub returns-else-not-is_quiet-clause-woken : goal.returns-else-not-is_quiet-clause-woken
returns-else-not-is_quiet-clause-woken c =
    asked_none c.args.core.now.world c.args.self.now.members c.args.self.now.lists (sym c.is_quiet.ensures ∙ c.if-not-is_quiet.false)
