use Rattle.std.proofs.Common.{◌∙◌}
use Rattle.xk_origins.proofs.NameLemmas.{name_put}
use Rattle.xk_origins.proofs.shared_names.add_names.Goals as goal

pub loop-number-preserved : goal.loop-number-preserved
loop-number-preserved c = λ x.
    name_put _ c.loop-number.table c.put.new.self _ c.args.shared.now c.loop-number.number-index x c.loop-number-test.true c.in_ok-put.ensures.entry
    ∙ c.loop-number.invariant x
