use Rattle.std.proofs.Common.{◌∙◌}
use Rattle.xk_show_lanes.proofs.LaneLemmas.{asked_told}
use Rattle.xk_show_lanes.proofs.lanes.steps_asked.Goals as goal

pub returns : goal.returns
returns c =
    let e = c.args.legal.now in
    (rw c.new-steps.ensures.items at c.in_ok-describe_run.ensures) ∙ asked_told c.args.window e.module.now e.log.now e.core.now.world
