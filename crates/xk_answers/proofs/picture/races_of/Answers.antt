use Rattle.xk_answers.proofs.picture.races_of.Goals as goal

pub returns-in-Some : goal.returns-in-Some
returns-in-Some c = rw c.in-Some.is (rw c.units.ensures at c.named_races_of.ensures)

pub returns-in-None : goal.returns-in-None
returns-in-None c = rw c.in-None.is c.module_races_of.ensures
