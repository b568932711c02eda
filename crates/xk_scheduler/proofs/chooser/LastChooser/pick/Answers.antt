use Rattle.std.proofs.Common.{length, ◌-◌}
use Rattle.xk_scheduler.proofs.ChooserAnswerLemmas.{at_place}
use Rattle.xk_scheduler.proofs.chooser.LastChooser.pick.Goals as goal

pub returns-clause-picked : goal.returns-clause-picked
returns-clause-picked c = (let xs = c.args.enabled.now.members in at_place xs (length xs - 1) c.greatest.result c.greatest.ensures)
