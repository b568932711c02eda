use Rattle.std.proofs.Common.{refl, ap}
use Rattle.std.specs.Prelude.{not}
use Rattle.xk_module.specs.declared.version.Version.TheVariants as version
use Rattle.xk_module.proofs.ModuleLemmas.{value_unknown}
use Rattle.xk_module.proofs.JsonValueLemmas.{known_without}
use Rattle.xk_module.proofs.laws.values_in_versions.Goals as goal

pub returns-clause-without : goal.returns-clause-without
returns-clause-without c = λ m range none v. record { version = v; known = known_without v m none; value = refl; range = range }

pub returns-clause-with_forto : goal.returns-clause-with_forto
returns-clause-with_forto c = λ m n range has names. value_unknown version.One m n range (ap not has) names
