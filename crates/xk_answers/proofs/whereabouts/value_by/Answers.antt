use Rattle.xk_answers.proofs.whereabouts.value_by.Goals as goal

pub returns-in-Some-clause-text : goal.returns-in-Some-clause-text
returns-in-Some-clause-text c =
    rw c.in-Some.is (rw c.units-units.ensures at (rw c.deref.ensures.value at c.source_where_value.ensures.text))
