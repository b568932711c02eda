use Rattle.std.proofs.Common.{subst}
use Rattle.xk_core.specs.Core.{CoreValue}
use Rattle.xk_outcomes.specs.Explored.{IsExplored}
use Rattle.xk_outcomes.proofs.all_outcomes.explored_in.Goals as goal

pub returns : goal.returns
returns c =
    let is = c.in_ok-explored.ensures in
    subst (λ (s : CoreValue). IsExplored c.args.order s c.args.limit c.in_ok-explored.explored) c.in_ok-start.ensures (record {
      begun = is.start;
      told = is.told;
      begins = is.begins;
      found = is.found;
      counting = is.counting;
      linked = is.linked;
      rest = is.rest;
      different = is.different;
      all = is.all;
      beyond = is.limit;
    })
