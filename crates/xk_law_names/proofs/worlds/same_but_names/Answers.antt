-- The law, from the lemmas.
use Rattle.xk_law_names.proofs.NameLaw.{same_joined, go_as_one, squares_but_names}
use Rattle.xk_law_names.proofs.worlds.same_but_names.Goals as goal

pub returns-clause-joined : goal.returns-clause-joined
returns-clause-joined c = same_joined

pub returns-clause-steps : goal.returns-clause-steps
returns-clause-steps c = go_as_one

pub returns-clause-squares : goal.returns-clause-squares
returns-clause-squares c m w = squares_but_names m w
