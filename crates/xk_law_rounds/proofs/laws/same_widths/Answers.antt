-- The law, from the lemmas.
use Rattle.xk_law_rounds.proofs.WidthLaw.{one_width, same_widest, same_widths}
use Rattle.xk_law_rounds.proofs.laws.same_widths.Goals as goal

pub returns-clause-one : goal.returns-clause-one
returns-clause-one c = one_width

pub returns-clause-every : goal.returns-clause-every
returns-clause-every c = same_widths

pub returns-clause-widest : goal.returns-clause-widest
returns-clause-widest c = same_widest
