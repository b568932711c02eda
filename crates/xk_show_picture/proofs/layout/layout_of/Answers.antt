use Rattle.std.proofs.Common.{◌∙◌}
use Rattle.xk_show_lanes.proofs.LaneLemmas.{asked_told}
use Rattle.xk_show_picture.proofs.layout.layout_of.Goals as goal

pub returns-clause-steps : goal.returns-clause-steps
returns-clause-steps c =
    let e = c.args.legal.now in
    let told = rw c.new-steps.ensures.items at c.in_ok-describe_run_by_both.ensures.second in
    told ∙ asked_told c.args.window e.module.now e.log.now e.core.now.world
