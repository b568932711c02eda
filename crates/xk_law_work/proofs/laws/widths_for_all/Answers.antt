-- The law, from the lemmas.
use Rattle.xk_law_work.proofs.ToldWidthLaw.{widest_for_all, widest_is_told, width_is_told, widths_for_all}
use Rattle.xk_law_work.proofs.laws.widths_for_all.Goals as goal

pub returns-clause-told : goal.returns-clause-told
returns-clause-told c = width_is_told

pub returns-clause-widest : goal.returns-clause-widest
returns-clause-widest c = widest_is_told

pub returns-clause-every : goal.returns-clause-every
returns-clause-every c = widths_for_all

pub returns-clause-every_widest : goal.returns-clause-every_widest
returns-clause-every_widest c = widest_for_all
