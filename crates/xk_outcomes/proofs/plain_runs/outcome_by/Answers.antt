use Rattle.std.proofs.Common.{◌∙◌, ap}
use Rattle.xk_outcomes.specs.Rising.{ordered}
use Rattle.xk_outcomes.proofs.plain_runs.outcome_by.Goals as goal

pub returns : goal.returns
returns g c =
    let ended = c.in_ok-ended.ended in
    record {
      printed = ended.printed.items;
      steps = ended.core.world.steps;
      run = c.in_ok-ended.ensures.run;
      told = c.in_ok-numbers.ensures ∙ ap (ordered c.args.order) c.deref.ensures.value;
    }
