use Rattle.std.proofs.Common.{◌∙◌, ap, Ok}
use Rattle.xk_scheduler.proofs.TurnLemmas.{going_on, going_less}
use Rattle.xk_scheduler.proofs.whole_run.drive.Goals as goal

pub loop-run-smaller : goal.loop-run-smaller
loop-run-smaller g c = going_less g.C.Chooser.answer g.C.Chooser.after c.loop-run.chooser c.turn.new.chooser c.loop-run.run.log.items
    c.turn.new.self.log.items c.loop-run.run.driver c.turn.new.self.driver c.in-Ok-true.field-0
    c.in-Ok-true.field-0-test c.in-Ok-true.ensures.noted (c.turn.ensures.bound (c.in-Ok-true.is ∙ ap (λ b. Ok b) c.in-Ok-true.field-0-test))

pub loop-run-preserved : goal.loop-run-preserved
loop-run-preserved g c = going_on g.C.Chooser.answer g.C.Chooser.after c.args.start.module_run c.args.start.world.arguments c.args.chooser.now c.loop-run.chooser
    c.turn.new.chooser c.loop-run.run.log.items c.turn.new.self.log.items c.loop-run.run.printed.items
    c.loop-run.run.driver c.turn.new.self.driver c.in-Ok-true.field-0 c.loop-run.invariant c.loop-run.run.run c.in-Ok-true.field-0-test c.in-Ok-true.ensures.noted
    (c.turn.ensures.bound (c.in-Ok-true.is ∙ ap (λ b. Ok b) c.in-Ok-true.field-0-test))
