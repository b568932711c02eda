use Rattle.xk_names.proofs.WellScopedLaw.{scoped_tree}
use Rattle.xk_origins.proofs.DueLaw.{runs_beside}
use Rattle.xk_origins.proofs.laws.stands_as_its_source.Goals as goal

pub returns : goal.returns
returns c = λ t m clean apart few made. runs_beside t m (scoped_tree t clean) apart few made
