-- The law, from the lemmas.
use Rattle.xk_law_races.proofs.SpeaksForAllLaw.{prints_every}
use Rattle.xk_law_races.proofs.ordered_prints.Goals as goal

pub returns : goal.returns
returns c m args log t z y limits ok taken one free none other = prints_every m args limits ok taken log z one free none t y other
