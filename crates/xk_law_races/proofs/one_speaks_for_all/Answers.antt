-- The law, from the lemmas.
use Rattle.xk_law_races.proofs.SpeaksForAllLaw.{no_race, every}
use Rattle.xk_law_races.proofs.one_speaks_for_all.Goals as goal

pub returns-clause-no_race : goal.returns-clause-no_race
returns-clause-no_race c m args log z limits ok taken one free = no_race m args limits ok taken log z one free

pub returns-clause-every : goal.returns-clause-every
returns-clause-every c m args log t z y limits ok taken one free other = every m args limits ok taken log z one free t y other
