use Rattle.std.proofs.Common.{◌∙◌, ap, sym}
use Rattle.xk_outcomes.specs.Rising.{ordered}
use Rattle.xk_outcomes.proofs.LoneOutcomeLemmas.{first_run, lone, of_these}
use Rattle.xk_outcomes.proofs.lone_runs.lone_run.Goals as goal

pub returns-then-not-speaks-clause-many : goal.returns-then-not-speaks-clause-many
returns-then-not-speaks-clause-many c =
    let ended = c.in_ok-ended.ended in
    let m = c.args.verified.now in
    let args = c.args.arguments.now in (
      ended.log.items,
      ended.printed.items,
      ended.core.world.steps,
      first_run m args _ ended.log.items ended.printed.items ended.core.world.steps c.in_ok-ended.ensures.run,
      sym (of_these c.args.order _ m _ args ended.log.items c.in_ok-speaks.speaks c.in_ok-ended.ensures.same_module
          c.in_ok-ended.ensures.same_arguments c.in_ok-speaks.ensures)
          ∙ c.if-not-speaks.true,
    )

pub returns-clause-lone : goal.returns-clause-lone
returns-clause-lone c =
    let ended = c.in_ok-ended.ended in
    let m = c.args.verified.now in
    let args = c.args.arguments.now in
    lone m args c.module-accepted.ensures.limits c.module-accepted.ensures.accepted c.requires c.args.order _ _
    (record {
      printed = ended.printed.items;
      steps = ended.core.world.steps;
      run = c.in_ok-ended.ensures.run;
      told = c.in_ok-numbers.ensures ∙ ap (ordered c.args.order) c.deref.ensures.value;
    })
    (sym (of_these c.args.order _ m _ args ended.log.items c.in_ok-speaks.speaks c.in_ok-ended.ensures.same_module
    c.in_ok-ended.ensures.same_arguments c.in_ok-speaks.ensures)
    ∙ c.if-not-speaks.false)
