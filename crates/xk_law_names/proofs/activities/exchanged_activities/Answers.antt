-- The laws, from the lemmas.
use Rattle.xk_law_names.proofs.ActivityNameExchangeLaw.{exchanged_twice, alike_exchanged, ended_exchanged, full_exchanged}
use Rattle.xk_law_names.proofs.activities.exchanged_activities.Goals as goal

pub returns-clause-undone : goal.returns-clause-undone
returns-clause-undone c = exchanged_twice

pub returns-clause-alike : goal.returns-clause-alike
returns-clause-alike c = alike_exchanged

pub returns-clause-ended : goal.returns-clause-ended
returns-clause-ended c = ended_exchanged

pub returns-clause-standings : goal.returns-clause-standings
returns-clause-standings c = full_exchanged
