-- The law of the contract.
use Rattle.xk_names.proofs.WellScopedLaw.{scoped_tree}
use Rattle.xk_law_compiler.proofs.MeansItsSourceLaw.{compiled_means}
use Rattle.xk_law_compiler.proofs.laws.means_its_source.Goals as goal

pub returns : goal.returns
returns c = λ t m clean apart few made. compiled_means t m (scoped_tree t clean) apart few made
