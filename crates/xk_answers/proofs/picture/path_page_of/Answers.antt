use Rattle.xk_answers.proofs.picture.path_page_of.Goals as goal

pub returns-in-Some : goal.returns-in-Some
returns-in-Some c = rw c.in-Some.is (rw c.units.ensures at c.named_path_page_of.ensures)
