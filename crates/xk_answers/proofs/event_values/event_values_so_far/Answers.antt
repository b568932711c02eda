use Rattle.xk_answers.proofs.event_values.event_values_so_far.Goals as goal

pub returns-in-Some : goal.returns-in-Some
returns-in-Some c = rw c.in-Some.is (rw c.units.ensures at c.named_event_values.ensures)
