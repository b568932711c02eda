use Rattle.std.proofs.Common.{◌∙◌, sym}
use Rattle.xk_scheduler.specs.Choosers.{turn_of}
use Rattle.xk_scheduler.proofs.ChooserAnswerLemmas.{at_place, at_end, turn_within}
use Rattle.xk_scheduler.proofs.chooser.Round.turn.Goals as goal

pub returns-in-Some : goal.returns-in-Some
returns-in-Some c =
    let xs = c.args.enabled.now.members in
    at_place xs (turn_of c.args.self.now xs) c.in-Some.next (sym c.in-Some.is ∙ c.next.ensures)

pub returns-in-None : goal.returns-in-None
returns-in-None c =
    let xs = c.args.enabled.now.members in
    at_end xs (turn_of c.args.self.now xs) c.least.result (sym c.in-None.is ∙ c.next.ensures) (turn_within c.args.self.now xs) c.least.ensures
