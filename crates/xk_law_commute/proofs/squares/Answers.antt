-- The law, from the lemma.
use Rattle.xk_law_commute.proofs.SquareLaw.{all_squares}
use Rattle.xk_law_commute.proofs.squares.Goals as goal

pub returns : goal.returns
returns c = all_squares
