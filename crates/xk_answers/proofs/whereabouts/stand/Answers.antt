use Rattle.xk_answers.proofs.whereabouts.stand.Goals as goal

pub returns-in-Some : goal.returns-in-Some
returns-in-Some c = rw c.in-Some.is (rw c.units.ensures at c.stand_by_names.ensures)
