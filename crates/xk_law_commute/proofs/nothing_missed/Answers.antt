-- The law, from the lemmas.
use Rattle.xk_law_commute.specs.Exploration.{IsIn}
use Rattle.xk_law_commute.proofs.ExplorationLaw.{nothing_missed}
use Rattle.xk_law_commute.proofs.nothing_missed.Goals as goal

pub returns : goal.returns
returns c m args all = nothing_missed m args (IsIn all)
