use Rattle.std.proofs.Common.{◌∙◌, ◌≤◌, ap, subst}
use Rattle.std.specs.Prelude.{IfSome}
use Rattle.xk_types.specs.Bound.{steps_bound}
use Rattle.xk_types.specs.World.{AreArguments}
use Rattle.xk_core.specs.Core.{CoreValue}
use Rattle.xk_scheduler.specs.LocalRuns.{IsGone}
use Rattle.xk_scheduler.proofs.UnloggedRunLemmas.{front_ends, front_gone, front_starts, gone_less}
use Rattle.xk_scheduler.proofs.whole_run.drive_unlogged.Goals as goal

pub loop-printed-init : goal.loop-printed-init
loop-printed-init g c =
    let start = front_starts g.C.Chooser.answer g.C.Chooser.after c.args.start c.in-Ok.driver c.args.chooser.now c.new-printed.result.items c.in-Ok.ensures.same c.requires
    c.in-Ok.ensures.opening c.new-printed.ensures.items in
    record { same_module = start.0; run = start.1 }

pub loop-printed-smaller : goal.loop-printed-smaller
loop-printed-smaller g c =
    let after = c.turns.new.self in
    gone_less g.C.Chooser.answer g.C.Chooser.after c.args.start.module_run c.loop-printed.driver after c.loop-printed.chooser c.turns.new.chooser c.in-Some.turn
    c.loop-printed.invariant.same_module
    (subst (IsGone g.C.Chooser.answer g.C.Chooser.after c.loop-printed.driver c.loop-printed.chooser after c.turns.new.chooser) c.in-Some.is c.in_ok-turn.ensures.gone)
    (subst (λ o. IfSome o (λ turn. after.world.steps ≤ steps_bound after.module_run)) c.in-Some.is c.in_ok-turn.ensures.bound)

pub loop-printed-preserved : goal.loop-printed-preserved
loop-printed-preserved g c =
    let on = front_gone g.C.Chooser.answer g.C.Chooser.after c.args.start.module_run c.args.start.world.arguments c.args.chooser.now c.loop-printed.driver c.turns.new.self
    c.loop-printed.chooser c.turns.new.chooser c.loop-printed.printed.items c.keep_printed.new.printed.items c.in-Some.turn c.loop-printed.invariant.same_module
    c.loop-printed.invariant.run
    (subst (IsGone g.C.Chooser.answer g.C.Chooser.after c.loop-printed.driver c.loop-printed.chooser c.turns.new.self c.turns.new.chooser) c.in-Some.is c.in_ok-turn.ensures.gone)
    c.in_ok-keep_printed.ensures in
    record { same_module = on.0; run = on.1 }

pub returns : goal.returns
returns g c =
    front_ends g.C.Chooser.answer g.C.Chooser.after c.args.start.module_run c.args.start.world.arguments c.args.chooser.now c.loop-printed.driver c.turns.new.self
    c.loop-printed.chooser c.turns.new.chooser c.loop-printed.printed.items c.steps_done-steps.result c.loop-printed.invariant.same_module
    (subst (λ (x : CoreValue). AreArguments x.module_run x.world.arguments) c.in-Ok.ensures.same c.in-Ok.ensures.taken)
    c.loop-printed.invariant.run c.in_ok-turn.field-0 c.in_default-2.not-Some c.in_ok-turn.ensures.gone
    (c.steps_done-steps.ensures.count ∙ ap (λ (x : CoreValue). x.world.steps) c.into_core.ensures)
