use Rattle.xk_emit.proofs.ScopeLemmas.{cut_all_back}
use Rattle.xk_emit.proofs.slots.cut.Goals as goal

pub returns-clause-statements : goal.returns-clause-statements
returns-clause-statements c = λ names n ss. cut_all_back c.truncate.new.self c.args.scope.now names n c.args.len ss c.truncate.ensures
