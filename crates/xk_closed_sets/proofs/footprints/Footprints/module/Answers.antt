use Rattle.xk_closed_sets.proofs.ReadLemmas.{tells}
use Rattle.xk_closed_sets.proofs.footprints.Footprints.module.Goals as goal

pub returns-clause-tells : goal.returns-clause-tells
returns-clause-tells c = tells c.args.self.now
