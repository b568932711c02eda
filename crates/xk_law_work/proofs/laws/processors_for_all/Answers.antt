-- The law, from the lemmas.
use Rattle.xk_law_work.proofs.ToldLevelLaw.{level_for_all}
use Rattle.xk_law_work.proofs.ToldProcessorsLaw.{least_for_all, most_for_all}
use Rattle.xk_law_work.proofs.laws.processors_for_all.Goals as goal

pub returns-clause-least : goal.returns-clause-least
returns-clause-least c = least_for_all

pub returns-clause-most : goal.returns-clause-most
returns-clause-most c = most_for_all

pub returns-clause-level : goal.returns-clause-level
returns-clause-level c = level_for_all
